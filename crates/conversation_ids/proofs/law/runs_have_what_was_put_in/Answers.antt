use Rattle.conversation_ids.proofs.Having.{with-has}
use Rattle.conversation_ids.proofs.law.runs_have_what_was_put_in.Goals as goal

pub returns : goal.returns
returns c = with-has
