use Rattle.peer_events.proofs.Drained.{drained-rest, items-bytes}
use Rattle.peer_events.proofs.draining.what_is_due_is_written.Goals as goal

pub returns-clause-items : goal.returns-clause-items
returns-clause-items c = drained-rest c.known.ensures

pub returns-clause-bytes : goal.returns-clause-bytes
returns-clause-bytes c = items-bytes
