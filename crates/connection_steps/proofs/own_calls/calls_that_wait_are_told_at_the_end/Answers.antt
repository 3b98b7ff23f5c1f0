use Rattle.connection_steps.proofs.OwnFound.{ended_found}
use Rattle.connection_steps.proofs.own_calls.calls_that_wait_are_told_at_the_end.Goals as goal

pub returns : goal.returns
returns c = ended_found
