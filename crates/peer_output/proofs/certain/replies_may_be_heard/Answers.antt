use Rattle.std.proofs.Common.{true}
use Rattle.peer_output.proofs.Streams.{heard-nothing, heard-push, reply-certain, reply-certain_over}
use Rattle.peer_output.proofs.certain.replies_may_be_heard.Goals as goal

pub returns-clause-nothing : goal.returns-clause-nothing
returns-clause-nothing c = heard-nothing

pub returns-clause-reply : goal.returns-clause-reply
returns-clause-reply c = λ is_over entries n turn heard reply known from is. heard-push is_over entries n heard turn reply from (reply-certain is_over entries n turn reply known is)

pub returns-clause-over : goal.returns-clause-over
returns-clause-over c = λ entries n turn heard from. heard-push true entries n heard turn _ from (reply-certain_over entries n turn)
