use Rattle.peer_output.proofs.Streams.{cancelled-push, cancelled-push_later}
use Rattle.peer_output.proofs.certain.cancel_reaches_what_stands_before_it.Goals as goal

pub returns-clause-before : goal.returns-clause-before
returns-clause-before c = cancelled-push

pub returns-clause-behind : goal.returns-clause-behind
returns-clause-behind c = cancelled-push_later
