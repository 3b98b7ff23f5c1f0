use Rattle.peer_output.proofs.Laws.{partial-front}
use Rattle.peer_output.proofs.law.fronts_are_partial_outputs.Goals as goal

pub returns : goal.returns
returns c = partial-front
