use Rattle.connection_messages.proofs.SaidBack.{withdrawal_read}
use Rattle.connection_messages.proofs.law.a_withdrawal_reads_back.Goals as goal

pub returns : goal.returns
returns c = withdrawal_read
