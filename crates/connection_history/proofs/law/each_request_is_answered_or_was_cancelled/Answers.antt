use Rattle.connection_history.proofs.Left.{left_cancelled, each_request}
use Rattle.connection_history.proofs.law.each_request_is_answered_or_was_cancelled.Goals as goal

pub returns-clause-request : goal.returns-clause-request
returns-clause-request c = each_request

pub returns-clause-left : goal.returns-clause-left
returns-clause-left c = left_cancelled
