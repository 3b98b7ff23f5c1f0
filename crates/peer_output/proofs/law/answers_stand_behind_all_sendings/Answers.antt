use Rattle.peer_output.proofs.Laws.{behind-answers}
use Rattle.peer_output.proofs.law.answers_stand_behind_all_sendings.Goals as goal

pub returns : goal.returns
returns c = behind-answers
