use Rattle.peer_output.proofs.Numbers.{nothing-under_way, waiting-under_way, failed-under_way, ended-finished}
use Rattle.peer_output.proofs.certain.handlers_keep_to_their_course.Goals as goal

pub returns-clause-nothing : goal.returns-clause-nothing
returns-clause-nothing c = nothing-under_way

pub returns-clause-waiting : goal.returns-clause-waiting
returns-clause-waiting c = waiting-under_way

pub returns-clause-failed : goal.returns-clause-failed
returns-clause-failed c = failed-under_way

pub returns-clause-ended : goal.returns-clause-ended
returns-clause-ended c = ended-finished
