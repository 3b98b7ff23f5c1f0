use Rattle.peer_events.proofs.Leaving.{closed-rest}
use Rattle.peer_events.proofs.turning.input_ends_at_rest.Goals as goal

pub returns : goal.returns
returns c = closed-rest c.known.ensures
