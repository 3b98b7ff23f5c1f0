use Rattle.std.proofs.Common.{◌+◌, ◌∷◌, ◌∙◌, ap, sym, drop, arith}
use Rattle.conversation_dues.proofs.Marked.{unanswered_by}
use Rattle.conversation_dues.proofs.Steps.{drop_here, drop_past}
use Rattle.conversation_dues.proofs.Targeted.{some_ids}
use Rattle.conversation_ids.specs.OwedMarks.{due_has}
use Rattle.conversation_rules.specs.Dues.{ids_read}
use Rattle.conversation_dues.proofs.batches.first_mark.Goals as goal

pub returns-in-Some : goal.returns-in-Some
returns-in-Some c = λ answer due none.
    let ids = c.args.ids.now in
    let i = c.loop-id.id-index in
    let others = drop (i + 1) ids in
    unanswered_by answer ids c.in-Some.id (ids_read others) due
    (sym c.loop-id.invariant ∙ ap ids_read (drop_here ids i c.id-item.result c.loop-id-test.true c.id-item.is) ∙ ap (λ o. ids_read (o ∷ others)) c.in-Some.is)
    (ap (λ mark. due_has mark due) (sym c.mark_of.ensures) ∙ none)

pub returns : goal.returns
returns c = λ answer due none.
    absurd (some_ids c.args.ids.now c.requires (sym c.loop-id.invariant ∙ ap ids_read (drop_past c.args.ids.now c.loop-id.id-index (omega arith))))
