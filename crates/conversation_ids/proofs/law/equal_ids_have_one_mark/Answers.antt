use Rattle.conversation_ids.proofs.OneMark.{one_mark}
use Rattle.conversation_ids.proofs.law.equal_ids_have_one_mark.Goals as goal

pub returns : goal.returns
returns c = one_mark
