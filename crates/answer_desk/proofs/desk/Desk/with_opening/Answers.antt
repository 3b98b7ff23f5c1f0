use Rattle.std.proofs.Common.{refl, ◌∙◌}
use Rattle.answer_desk.specs.Desk.{view}
use Rattle.answer_desk.proofs.desk.Desk.with_opening.Goals as goal

pub returns : goal.returns
unfolding view
returns c = c.with_numbers.ensures ∙ rw c.in_ok-numbers.ensures refl
