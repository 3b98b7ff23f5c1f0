use Rattle.judge_laws.proofs.Batches.{answers_messages}
use Rattle.judge_laws.proofs.Failures.{answer_message}
use Rattle.judge_laws.proofs.said.answers_read_as_messages.Goals as goal

pub returns-clause-single : goal.returns-clause-single
returns-clause-single c = answer_message

pub returns-clause-batch : goal.returns-clause-batch
returns-clause-batch c = answers_messages
