use Rattle.peer_output.proofs.Laws.{output-is_partial}
use Rattle.peer_output.proofs.law.output_is_a_partial_output.Goals as goal

pub returns : goal.returns
returns c = output-is_partial
