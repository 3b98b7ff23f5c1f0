use Rattle.peer_output.proofs.Laws.{partial-push_sent}
use Rattle.peer_output.proofs.law.sending_is_appended.Goals as goal

pub returns : goal.returns
returns c = partial-push_sent
