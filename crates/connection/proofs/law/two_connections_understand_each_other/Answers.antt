use Rattle.connection.proofs.SoundTexts.{ReadLaws}
use Rattle.connection.proofs.Understood.{understands}
use Rattle.connection.proofs.law.two_connections_understand_each_other.Goals as goal

reads : goal.After-contents_of_what_is_written_are_its_texts → ReadLaws
reads c = record {
  call_reads = c.a_call_reads_back.ensures;
  calls_read = c.a_batch_of_calls_reads_back.ensures;
  notice_reads = c.a_notification_reads_back.ensures;
  withdrawal_reads = c.a_withdrawal_reads_back.ensures;
  answer_reads = c.an_answer_reads_back.ensures;
  answers_read = c.a_batch_of_answers_reads_back.ensures;
}

pub returns : goal.returns
returns c = understands (reads c) c.contents_of_what_is_written_are_its_texts.ensures.front
