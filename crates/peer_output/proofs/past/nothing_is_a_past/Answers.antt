use Rattle.peer_output.proofs.Pasts.{start-past}
use Rattle.peer_output.proofs.past.nothing_is_a_past.Goals as goal

pub returns : goal.returns
returns c = start-past
