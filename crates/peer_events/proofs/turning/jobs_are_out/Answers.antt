use Rattle.peer_events.proofs.Returned.{out-number, out-waits, out-unfinished, out-marked}
use Rattle.peer_events.proofs.turning.jobs_are_out.Goals as goal

pub returns-clause-number : goal.returns-clause-number
returns-clause-number c = out-number

pub returns-clause-waits : goal.returns-clause-waits
returns-clause-waits c = out-waits

pub returns-clause-unfinished : goal.returns-clause-unfinished
returns-clause-unfinished c = out-unfinished

pub returns-clause-marked : goal.returns-clause-marked
returns-clause-marked c = out-marked
