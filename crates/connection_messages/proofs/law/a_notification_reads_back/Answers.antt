use Rattle.connection_messages.proofs.SaidBack.{notice_read}
use Rattle.connection_messages.proofs.law.a_notification_reads_back.Goals as goal

pub returns : goal.returns
returns c = notice_read
