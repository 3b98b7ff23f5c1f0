use Rattle.peer_output.proofs.Laws.{parts-determined}
use Rattle.peer_output.proofs.law.without_cancels_the_parts_are_determined.Goals as goal

pub returns : goal.returns
returns c = λ table units these others none h k. parts-determined table units none these others h k
