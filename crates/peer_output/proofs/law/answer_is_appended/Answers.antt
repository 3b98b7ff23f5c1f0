use Rattle.peer_output.proofs.Laws.{partial-push_answer}
use Rattle.peer_output.proofs.law.answer_is_appended.Goals as goal

pub returns : goal.returns
returns c = partial-push_answer
