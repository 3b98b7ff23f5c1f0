use Rattle.std.proofs.Common.{refl}
use Rattle.answer_desk.specs.Desk.{view}
use Rattle.answer_desk.proofs.desk.Desk.with_numbers.Goals as goal

pub returns : goal.returns
unfolding view
returns c = rw (c.new.ensures.items) refl
