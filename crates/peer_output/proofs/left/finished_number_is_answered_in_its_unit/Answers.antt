use Rattle.peer_output.proofs.Lefts.{left-answered}
use Rattle.peer_output.proofs.left.finished_number_is_answered_in_its_unit.Goals as goal

pub returns : goal.returns
returns c = λ took number n course units. left-answered took number course n units
