use Rattle.std.proofs.Common.{◌≡◌, ◌≤◌, length, map, ap, arith}
use Rattle.std.proofs.lemmas.List.{length-map}
use Rattle.toml.specs.Data.{no_items}
use Rattle.toml.specs.View.{items_view}
use Rattle.method_steps.specs.Inner.Methods.{named_steps}
use Rattle.table_reading.specs.Limits.{items_len}
use Rattle.table_reading.specs.Made.{steps_from}
use Rattle.method_steps.specs.Made.{methods_from}
use Rattle.table_reading.proofs.ItemsLaws.{items_len-view}
use Rattle.method_steps.proofs.Opening.{opening_of_steps}
use Rattle.method_steps.proofs.Within.{list_within, methods_within, length-methods_from}
use Rattle.method_steps.proofs.table.Table.of_lists.Goals as goal

pub places_of-requires : goal.places_of-requires
places_of-requires c =
    let ms = c.in_ok-methods.methods.items in
    let ds = items_view c.args.methods.now in
    let few : items_len ds ≤ 256 = omega (arith, c.requires.methods, items_len-view c.args.methods.now) in
    let kept : length ms ≤ 256 = omega (arith, few, ap length c.in_ok-methods.ensures.ok.0, length-map ms named_steps, length-methods_from ds) in
    rw c.deref.ensures.value kept

pub invariant_of-result : goal.invariant_of-result
invariant_of-result c =
    let ms = c.in_ok-methods.methods.items in
    let ds = items_view c.args.methods.now in
    let os = items_view c.args.opening.now in
    let few : items_len ds ≤ 256 = omega (arith, c.requires.methods, items_len-view c.args.methods.now) in
    let short : items_len os ≤ 64 = omega (arith, c.requires.opening, items_len-view c.args.opening.now) in
    let made : map named_steps ms ≡ methods_from ds = c.in_ok-methods.ensures.ok.0 in (
      record {
        few = omega (arith, few, ap length made, length-map ms named_steps, length-methods_from ds);
        counted = c.in_ok-methods.ensures.counted;
        within = rw made (methods_within c.args.version no_items ds c.in_ok-methods.ensures.ok.1);
        found = rw c.deref.ensures.value at c.in_ok-places.ensures;
      },
      opening_of_steps c.in_ok-opening.opening (steps_from os) c.in_ok-opening.ensures.ok.0 (list_within c.args.version 0 os short c.in_ok-opening.ensures.ok.1),
    )
