use Rattle.connection_messages.proofs.AnswersBack.{answers_read}
use Rattle.connection_messages.proofs.law.a_batch_of_answers_reads_back.Goals as goal

pub returns : goal.returns
returns c = answers_read
