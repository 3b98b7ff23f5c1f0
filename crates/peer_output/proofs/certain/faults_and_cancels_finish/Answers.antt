use Rattle.peer_output.proofs.Numbers.{fault-finished, cut-finished}
use Rattle.peer_output.proofs.certain.faults_and_cancels_finish.Goals as goal

pub returns-clause-fault : goal.returns-clause-fault
returns-clause-fault c = fault-finished

pub returns-clause-cancelled : goal.returns-clause-cancelled
returns-clause-cancelled c = cut-finished
