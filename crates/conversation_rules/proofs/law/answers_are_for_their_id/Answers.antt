use Rattle.conversation_rules.proofs.Targets.{named_target-is}
use Rattle.conversation_rules.proofs.law.answers_are_for_their_id.Goals as goal

pub returns : goal.returns
returns c = named_target-is
