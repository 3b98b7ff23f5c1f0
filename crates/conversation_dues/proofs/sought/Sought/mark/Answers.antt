use Rattle.std.proofs.Common.{◌∙◌, ap, sym, true, false, Some, None, if◌then◌else◌}
use Rattle.conversation_dues.proofs.Marked.{place_none, asked_none, cancelled_none}
use Rattle.conversation_dues.specs.Found.{place_of}
use Rattle.conversation_ids.specs.OwedMarks.{due_has}
use Rattle.conversation_ids.specs.Ways.{fits}
use Rattle.conversation_dues.proofs.sought.Sought.mark.Goals as goal

pub returns-in-Single : goal.returns-in-Single
returns-in-Single c = λ due none.
    ap (λ sought. place_of sought c.args.id.now due) c.in-Single.is ∙ place_none c.mark_of_way.result false (fits c.in-Single.way c.args.id.now) due c.mark_of_way.ensures none

pub returns-in-InBatch : goal.returns-in-InBatch
returns-in-InBatch c = λ due none.
    ap (λ sought. place_of sought c.args.id.now due) c.in-InBatch.is ∙ place_none c.mark_of_way-in-InBatch.result true (fits c.in-InBatch.way c.args.id.now) due c.mark_of_way-in-InBatch.ensures none

pub returns-in-Asked : goal.returns-in-Asked
returns-in-Asked c = λ due none.
    ap (λ sought. place_of sought c.args.id.now due) c.in-Asked.is
    ∙ ap (λ b. if b then Some 0 else None) (asked_none c.args.id.now due (ap (λ mark. due_has mark due) (sym c.mark_of.ensures) ∙ none))

pub returns-in-Cancelled : goal.returns-in-Cancelled
returns-in-Cancelled c = λ due none.
    ap (λ sought. place_of sought c.args.id.now due) c.in-Cancelled.is
    ∙ ap (λ b. if b then Some 0 else None) (cancelled_none c.args.id.now due (ap (λ mark. due_has mark due) (sym c.mark_of-in-Cancelled.ensures) ∙ none))
