use Rattle.judge_laws.proofs.Batches.{calls_messages}
use Rattle.judge_laws.proofs.SaidStrictly.{call_message}
use Rattle.judge_laws.proofs.said.calls_read_as_messages.Goals as goal

pub returns-clause-single : goal.returns-clause-single
returns-clause-single c = call_message

pub returns-clause-batch : goal.returns-clause-batch
returns-clause-batch c = calls_messages
