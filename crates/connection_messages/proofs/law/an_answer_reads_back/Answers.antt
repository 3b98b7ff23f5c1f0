use Rattle.connection_messages.proofs.AnswersBack.{answer_read}
use Rattle.connection_messages.proofs.law.an_answer_reads_back.Goals as goal

pub returns : goal.returns
returns c = answer_read
