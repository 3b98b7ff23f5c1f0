use Rattle.peer_output.proofs.Pasts.{past-output}
use Rattle.peer_output.proofs.past.past_that_is_done_is_an_output.Goals as goal

pub returns : goal.returns
returns c = past-output
