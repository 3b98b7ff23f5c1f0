use Rattle.connection_steps.proofs.OwnEntries.{waits_at}
use Rattle.connection_steps.proofs.OwnFound.{caller_found, withdrawn_found, withdrawable_found}
use Rattle.connection_steps.proofs.own_calls.a_call_of_ours_is_found_by_its_key.Goals as goal

pub returns-clause-waiting : goal.returns-clause-waiting
returns-clause-waiting c = waits_at

pub returns-clause-caller : goal.returns-clause-caller
returns-clause-caller c = caller_found

pub returns-clause-withdrawn : goal.returns-clause-withdrawn
returns-clause-withdrawn c = withdrawn_found

pub returns-clause-withdrawable : goal.returns-clause-withdrawable
returns-clause-withdrawable c = withdrawable_found
