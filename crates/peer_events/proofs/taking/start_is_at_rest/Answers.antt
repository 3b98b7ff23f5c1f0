use Rattle.peer_events.proofs.Started.{start-at_rest}
use Rattle.peer_events.proofs.taking.start_is_at_rest.Goals as goal

pub returns : goal.returns
returns c = start-at_rest c.known.ensures
