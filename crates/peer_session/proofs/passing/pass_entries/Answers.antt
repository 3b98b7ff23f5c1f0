-- One more entry is passed, with the number that is next.
use Rattle.std.proofs.Common.{◌≡◌, ◌+◌, ◌++◌, ◌∷◌, [], map, ap, sym, ◌∙◌, append_assoc, arith}
use Rattle.std.proofs.lemmas.List.{map_push}
use Rattle.std.specs.Vec.Iter.{into_iter_items}
use Rattle.rpc_messages.specs.Entry.{entry_seen}
use Rattle.rpc_messages.specs.Numbering.{numbers_in, numbers_of}
use Rattle.peer_events.specs.Taking.PassesEntries.{none_left}
use Rattle.session_runs.proofs.Arriving.{numbers_in-push}
use Rattle.peer_session.proofs.Entering.{numbers_in-among, passes-push}
use Rattle.peer_session.proofs.passing.pass_entries.Goals as goal

pub loop-entry-init : goal.loop-entry-init
loop-entry-init c = (none_left, omega arith, sym c.into_iter-entry-iterator.ensures.into_iter_gives.0)

pub pass_entry-number-requires : goal.pass_entry-number-requires
pass_entry-number-requires c =
    let rest : c.args.entries.items ≡ c.loop-entry.yielded ++ c.in-Some.entry ∷ into_iter_items c.next.new.self =
    c.loop-entry.invariant.2 ∙ ap (λ items. c.loop-entry.yielded ++ items) c.in-Some.ensures.steps.0 in
    let among = numbers_in-among entry_seen c.loop-entry.yielded c.in-Some.entry (into_iter_items c.next.new.self) in
    let all : numbers_in (map entry_seen c.args.entries.items) ≡ numbers_in (map entry_seen (c.loop-entry.yielded ++ c.in-Some.entry ∷ into_iter_items c.next.new.self)) =
    ap (λ items. numbers_in (map entry_seen items)) rest in
    omega (arith, among, all, c.requires, c.loop-entry.invariant.1)

pub loop-entry-preserved : goal.loop-entry-preserved
loop-entry-preserved c =
    let seen = map entry_seen c.loop-entry.yielded in
    let total : numbers_in (map entry_seen (c.loop-entry.yielded ++ c.in-Some.entry ∷ [])) ≡ numbers_in seen + numbers_of (entry_seen c.in-Some.entry) =
    ap numbers_in (map_push entry_seen c.loop-entry.yielded c.in-Some.entry) ∙ numbers_in-push seen (entry_seen c.in-Some.entry) in (
      passes-push entry_seen c.args.runs.now c.loop-entry.runs c.pass_entry-number.new.runs c.args.first c.loop-entry.number c.loop-entry.yielded c.in-Some.entry
          c.loop-entry.invariant.1 c.loop-entry.invariant.0 c.pass_entry-number.ensures.passes,
      omega (arith, total, c.pass_entry-number.ensures.next, c.loop-entry.invariant.1),
      c.loop-entry.invariant.2 ∙ ap (λ items. c.loop-entry.yielded ++ items) c.in-Some.ensures.steps.0
          ∙ sym (append_assoc c.loop-entry.yielded (c.in-Some.entry ∷ []) (into_iter_items c.next.new.self)),
    )
