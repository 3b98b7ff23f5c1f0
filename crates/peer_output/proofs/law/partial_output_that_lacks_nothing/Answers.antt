use Rattle.peer_output.proofs.Laws.{partial-whole}
use Rattle.peer_output.proofs.law.partial_output_that_lacks_nothing.Goals as goal

pub returns : goal.returns
returns c = partial-whole
