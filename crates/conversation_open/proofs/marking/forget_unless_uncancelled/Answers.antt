use Rattle.std.proofs.Common.{◌&&◌, not, ap, sym, ◌∙◌}
use Rattle.conversation_ids.specs.OwedMarks.{is_mark, uncancelled_has}
use Rattle.conversation_open.proofs.Noting.{forgotten, left_there, unless_left, without_none}
use Rattle.conversation_open.proofs.marking.forget_unless_uncancelled.Goals as goal

pub returns-then-not-has_uncancelled : goal.returns-then-not-has_uncancelled
returns-then-not-has_uncancelled c =
    forgotten c.remove.new.self c.args.marks.now c.in-Some.mark c.args.number (λ m. is_mark c.args.mark m && not (uncancelled_has m c.args.due.now)) c.remove.ensures
    (λ m. unless_left c.in-Some.mark (λ m. uncancelled_has m c.args.due.now) (sym c.has_uncancelled.ensures ∙ c.if-not-has_uncancelled.true) m ∙ ap (λ own. is_mark own m && not (uncancelled_has m c.args.due.now)) (sym c.in-Some.is))

pub returns-else-not-has_uncancelled : goal.returns-else-not-has_uncancelled
returns-else-not-has_uncancelled c =
    without_none c.args.marks.now c.args.number (λ m. is_mark c.args.mark m && not (uncancelled_has m c.args.due.now))
    (λ m. ap (λ own. is_mark own m && not (uncancelled_has m c.args.due.now)) c.in-Some.is ∙ left_there c.in-Some.mark (λ m. uncancelled_has m c.args.due.now) (sym c.has_uncancelled.ensures ∙ c.if-not-has_uncancelled.false) m)

pub returns-in_default : goal.returns-in_default
returns-in_default c = without_none c.args.marks.now c.args.number (λ m. is_mark c.args.mark m && not (uncancelled_has m c.args.due.now)) (λ m. ap (λ own. is_mark own m && not (uncancelled_has m c.args.due.now)) c.in_default.is)
