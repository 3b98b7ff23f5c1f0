use Rattle.judge_laws.proofs.SaidStrictly.{notice_message}
use Rattle.judge_laws.proofs.said.notifications_read_as_messages.Goals as goal

pub returns : goal.returns
returns c = notice_message
