use Rattle.peer_events.proofs.Leaving.{leaves-rest}
use Rattle.peer_events.proofs.turning.ready_handlers_go_out.Goals as goal

pub returns : goal.returns
returns c = leaves-rest c.known.ensures
