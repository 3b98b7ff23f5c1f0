use Rattle.std.proofs.Common.{refl}
use Rattle.answer_desk.specs.Desk.{view}
use Rattle.answer_desk.proofs.desk.Desk.close_board.Goals as goal

pub returns : goal.returns
unfolding view
returns c = refl
