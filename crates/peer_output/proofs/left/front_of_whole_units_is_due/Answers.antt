use Rattle.peer_output.proofs.Lefts.{left-front}
use Rattle.peer_output.proofs.left.front_of_whole_units_is_due.Goals as goal

pub returns : goal.returns
returns c = left-front
