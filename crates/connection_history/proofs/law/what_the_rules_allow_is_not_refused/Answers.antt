use Rattle.std.proofs.Common.{refl}
use Rattle.connection_history.proofs.Allowed.{told_open, answer_allowed, call_allowed, calls_allowed, withdrawal_allowed}
use Rattle.connection_history.proofs.law.what_the_rules_allow_is_not_refused.Goals as goal

pub returns-clause-told : goal.returns-clause-told
returns-clause-told c = told_open

pub returns-clause-answer : goal.returns-clause-answer
returns-clause-answer c = answer_allowed

pub returns-clause-notice : goal.returns-clause-notice
returns-clause-notice c = λ cancels history outgoing. refl

pub returns-clause-call : goal.returns-clause-call
returns-clause-call c = call_allowed

pub returns-clause-batch : goal.returns-clause-batch
returns-clause-batch c = calls_allowed

pub returns-clause-withdrawal : goal.returns-clause-withdrawal
returns-clause-withdrawal c = withdrawal_allowed
