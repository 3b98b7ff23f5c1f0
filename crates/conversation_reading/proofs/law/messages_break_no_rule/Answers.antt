use Rattle.conversation_reading.proofs.Agreeing.{kinds_agree}
use Rattle.conversation_reading.proofs.law.messages_break_no_rule.Goals as goal

pub returns : goal.returns
returns c = kinds_agree
