use Rattle.peer_events.proofs.Opened.{opened-fits}
use Rattle.peer_events.proofs.taking.units_are_opened.Goals as goal

pub returns : goal.returns
returns c = λ table s past unit jobs rest. opened-fits c.known.ensures table s past jobs rest unit
