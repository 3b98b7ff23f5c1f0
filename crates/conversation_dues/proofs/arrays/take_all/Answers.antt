use Rattle.std.proofs.Common.{◌∷◌, [], ◌+◌, ◌∙◌, ap, sym, subst, drop, List}
use Rattle.std.specs.List.{slice_get}
use Rattle.conversation_reading.specs.declared.entry.WrittenId.{WrittenId}
use Rattle.conversation_dues.specs.Left.{choice, all_taken, ids_of, IsTaken}
use Rattle.conversation_contents.specs.Left.{places_of}
use Rattle.conversation_dues.proofs.Left.{going, stopped, ids_from}
use Rattle.conversation_dues.proofs.arrays.take_all.Goals as goal

pub loop-id-preserved : goal.loop-id-preserved
loop-id-preserved c = record {
  findable = c.take_one.ensures.findable;
  taken = λ left is.
      let which = c.args.which in
      let at = slice_get c.args.entries.now in
      let way = c.loop-id.invariant.taken left is in
      let one : List WrittenId = ids_of which (c.id-item.result ∷ []) in
      let rest : List WrittenId = ids_of which (drop (c.loop-id.id-index + 1) c.args.ids.now) in
      let next = ids_from which c.args.ids.now c.loop-id.id-index c.id-item.result c.loop-id-test.true c.id-item.is in
      going (choice which) at (places_of c.take_one.new.places) one rest way.0 (all_taken (choice which) (ids_of which c.args.ids.now) left)
      (sym (ap (λ ids. all_taken (choice which) ids way.0) next) ∙ way.1.1)
      (subst (λ all. IsTaken at (places_of c.take_one.new.places) all (all_taken (choice which) one way.0)) c.if-not-take_one.false (c.take_one.ensures.taken way.0 way.1.0));
}

pub returns-then-not-take_one-clause-taken : goal.returns-then-not-take_one-clause-taken
returns-then-not-take_one-clause-taken c = λ left is.
    let which = c.args.which in
    let at = slice_get c.args.entries.now in
    let way = c.loop-id.invariant.taken left is in
    let one : List WrittenId = ids_of which (c.id-item.result ∷ []) in
    let rest : List WrittenId = ids_of which (drop (c.loop-id.id-index + 1) c.args.ids.now) in
    let next = ids_from which c.args.ids.now c.loop-id.id-index c.id-item.result c.loop-id-test.true c.id-item.is in
    stopped (choice which) at (places_of c.take_one.new.places) one rest way.0 (all_taken (choice which) (ids_of which c.args.ids.now) left)
    (sym (ap (λ ids. all_taken (choice which) ids way.0) next) ∙ way.1.1)
    (subst (λ all. IsTaken at (places_of c.take_one.new.places) all (all_taken (choice which) one way.0)) c.if-not-take_one.true (c.take_one.ensures.taken way.0 way.1.0))
