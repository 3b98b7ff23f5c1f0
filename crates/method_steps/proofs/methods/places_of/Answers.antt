use Rattle.std.proofs.Common.{◌≡◌, ◌+◌, [], ◌∷◌, ◌++◌, length, map, take, Some, None, is_some, true, false, string_bytes, ap, sym, ◌∙◌, arith, rules}
use Rattle.std.proofs.lemmas.Grind.{common_steps}
use Rattle.std.proofs.lemmas.List.{take_more, length-map, map-append}
use Rattle.std.proofs.lemmas.Map.Text.{btree_map_updates_text}
use Rattle.std.specs.BTreeMap.{get_by_text}
use Rattle.method_steps.specs.Inner.Methods.{named_steps}
use Rattle.method_steps.specs.Steps.{place_of}
use Rattle.method_steps.proofs.PlacesOf.{placed_after, placed_before, none_unless}
use Rattle.method_steps.proofs.methods.places_of.Goals as goal
use Rattle.method_steps.proofs.methods.places_of.Goals.{then-not-contains_key+in_ok-from_str+in_ok-insert, else-not-contains_key}

pub loop-place-preserved : goal.loop-place-preserved
loop-place-preserved c = λ name.
    let ms = c.args.methods.now in
    let i = c.loop-place.place in
    let m = c.index-methods-place.result in
    let before = map named_steps (take i ms) in
    let taken : map named_steps (take (i + 1) ms) ≡ before ++ named_steps m ∷ [] =
    ap (map named_steps) (take_more ms i m c.loop-place-test.true ∙ ap (λ x. take i ms ++ x ∷ []) (sym c.index-methods-place.is)) ∙ map-append named_steps (take i ms) (m ∷ []) in
    let last : i ≡ length before = grind (arith, common_steps, length-map) in
    let here : is_some (place_of m.name before) ≡ c.contains_key.result = ap is_some (sym (c.loop-place.invariant m.name)) ∙ sym (rw c.as_str-name.ensures at c.contains_key.ensures) in
    rw taken (elim c.if-not-contains_key.branch [
      | then-not-contains_key+in_ok-from_str+in_ok-insert w ↦
          let key = w.in_ok-from_str.field-0 in
          let named : string_bytes key ≡ m.name = w.in_ok-from_str.ensures.ok ∙ c.as_str-name.ensures in
          let after = btree_map_updates_text (string_bytes key) c.loop-place.places w.insert.new.self (Some i) w.in_ok-insert.ensures.updates name in
          let gone : c.contains_key.result ≡ false = search rules in
          let absent : place_of m.name before ≡ None = none_unless (place_of m.name before) (here ∙ gone) in
          rw w.places-is (placed_after name (string_bytes key) before (named_steps m) i (get_by_text c.loop-place.places name) (get_by_text w.insert.new.self name) named last (c.loop-place.invariant name) absent after)
      | else-not-contains_key w ↦
          let found : c.contains_key.result ≡ true = search rules in
          let there : is_some (place_of m.name before) ≡ true = here ∙ found in
          rw w.places-is (c.loop-place.invariant name ∙ placed_before name before (named_steps m) there)
    ])
