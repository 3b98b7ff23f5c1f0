use Rattle.peer_output.proofs.Laws.{nothing-partial}
use Rattle.peer_output.proofs.law.nothing_is_a_partial_output.Goals as goal

pub returns : goal.returns
returns c = nothing-partial
