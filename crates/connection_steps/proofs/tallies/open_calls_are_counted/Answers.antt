use Rattle.connection_steps.proofs.OpenCounted.{open-counted, waiting-counted}
use Rattle.connection_steps.proofs.tallies.open_calls_are_counted.Goals as goal

pub returns-clause-open_calls : goal.returns-clause-open_calls
returns-clause-open_calls c = open-counted

pub returns-clause-waiting : goal.returns-clause-waiting
returns-clause-waiting c = waiting-counted
