use Rattle.connection_messages.proofs.Batched.{calls_read}
use Rattle.connection_messages.proofs.law.a_batch_of_calls_reads_back.Goals as goal

pub returns : goal.returns
returns c = calls_read
