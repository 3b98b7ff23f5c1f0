use Rattle.std.proofs.Common.{◌==◌, ◌&&◌, ◌∙◌, not, ap}
use Rattle.std.specs.List.{list_any}
use Rattle.conversation_ids.specs.OwedMarks.{content_has, entry_has}
use Rattle.conversation_contents.specs.Numbers.{has_number}
use Rattle.conversation_open.specs.Marked.{IsWithout}
use Rattle.conversation_open.proofs.Noting.{both_gone, without_content}
use Rattle.conversation_open.proofs.marking.forget_content.Goals as goal

pub returns-clause-marks : goal.returns-clause-marks
returns-clause-marks c = λ mark n.
    let due = c.args.due in
    let old = c.args.marks.now in
    let content : IsWithout (λ mark. content_has mark due) c.args.number c.forget_if-3.new.marks old =
    without_content c.forget_if-3.new.marks c.forget_if-2.new.marks c.forget_if.new.marks old c.args.number due c.is_unreadable.result c.has_huge.result c.is_batch.result c.unreadable_mark.result c.huge_mark.result c.batch_mark.result
    c.is_unreadable.ensures c.has_huge.ensures c.is_batch.ensures c.unreadable_mark.ensures c.huge_mark.ensures c.batch_mark.ensures c.forget_if.ensures c.forget_if-2.ensures c.forget_if-3.ensures in
    c.forget_entries.ensures.marks mark n
    ∙ ap (λ b. b && not ((c.args.number == n) && list_any (entry_has mark) due.entries)) (content mark n)
    ∙ both_gone (has_number old mark n) (c.args.number == n) (content_has mark due) (list_any (entry_has mark) due.entries)
