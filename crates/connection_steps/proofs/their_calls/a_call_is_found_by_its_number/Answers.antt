use Rattle.connection_steps.proofs.TheirFound.{found, cancelled_found}
use Rattle.connection_steps.proofs.their_calls.a_call_is_found_by_its_number.Goals as goal

pub returns-clause-found : goal.returns-clause-found
returns-clause-found c = found

pub returns-clause-cancelled : goal.returns-clause-cancelled
returns-clause-cancelled c = cancelled_found
