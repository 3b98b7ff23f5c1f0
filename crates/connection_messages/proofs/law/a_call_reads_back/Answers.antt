use Rattle.connection_messages.proofs.SaidBack.{call_read}
use Rattle.connection_messages.proofs.law.a_call_reads_back.Goals as goal

pub returns : goal.returns
returns c = call_read
