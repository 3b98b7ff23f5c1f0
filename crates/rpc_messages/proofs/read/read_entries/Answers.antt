use Rattle.std.proofs.Common.{◌≡◌, ◌-◌, ◌<◌, [], ◌∷◌, ◌++◌, length, map, None, sym, ap, ap₂, ◌∙◌, arith}
use Rattle.std.proofs.lemmas.List.{map-append}
use Rattle.json.specs.Json.{after_end_array, value, parse_map}
use Rattle.json_reading.proofs.Reading.{item_read, item_refused, items_over}
use Rattle.serde_json.specs.Data.{no_items}
use Rattle.rpc_messages.specs.Entry.{entry_seen, entry_of}
use Rattle.value_reading.proofs.Elements.{elements_before}
use Rattle.rpc_messages.proofs.Elements.{none_before, one_more, entries_of-all}
use Rattle.rpc_messages.proofs.read.read_entries.Goals as goal

pub elements-init : goal.elements-init
elements-init c = (length c.args.reader.now, [], omega arith, none_before _, ap (map entry_seen) c.new-entries.ensures.items)

pub returns-in_err-entry-clause-refused : goal.returns-in_err-entry-clause-refused
returns-in_err-entry-clause-refused c refused =
    let l = c.elements in
    let going : (after_end_array l.reader ≡ None) × (c.take_end_array.new.self ≡ l.reader) = grind arith in
    l.invariant.3 ∙ ap (parse_map (elements_before l.invariant.1)) (item_refused (value c.args.depth) l.invariant.0 l.reader going.0 (rw (← going.1) (c.read_entry.ensures.refused (grind arith))))

pub elements-preserved : goal.elements-preserved
elements-preserved c =
    let p = value c.args.depth in
    let l = c.elements in
    let n = l.invariant.0 in
    let ds = l.invariant.1 in
    let going : (after_end_array l.reader ≡ None) × (c.take_end_array.new.self ≡ l.reader) = grind arith in
    let done = c.in_ok-entry.ensures in
    let d = done.ok.0 in
    let r = c.read_entry.new.reader in
    let less : length r < length l.reader = rw (← going.1) done.shorter in
    let turn = item_read p n l.reader r d (omega (arith, l.invariant.2)) going.0 (rw (← going.1) done.ok.1) in (
      n - 1,
      ds ++ d ∷ [],
      omega (arith, l.invariant.2),
      l.invariant.3 ∙ ap (parse_map (elements_before ds)) turn ∙ one_more ds d _,
      ap (map entry_seen) c.in_ok-push.ensures.items ∙ map-append entry_seen l.entries.items (c.in_ok-entry.entry ∷ [])
          ∙ ap₂ (λ xs ys. xs ++ ys) l.invariant.4 (ap (λ e. e ∷ []) done.ok.2) ∙ sym (map-append entry_of ds (d ∷ [])),
    )

pub returns-clause-ok : goal.returns-clause-ok
returns-clause-ok c =
    let l = c.elements in
    let ds = l.invariant.1 in
    let r = c.take_end_array.new.self in (
      elements_before ds no_items,
      l.invariant.3 ∙ ap (parse_map (elements_before ds)) (items_over (value c.args.depth) l.invariant.0 l.reader r l.invariant.2 (grind arith)),
      l.invariant.4 ∙ entries_of-all ds,
    )
