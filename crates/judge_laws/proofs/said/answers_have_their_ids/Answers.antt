use Rattle.judge_laws.proofs.Batches.{answers_named}
use Rattle.judge_laws.proofs.Failures.{answer_named}
use Rattle.judge_laws.proofs.said.answers_have_their_ids.Goals as goal

pub returns-clause-single : goal.returns-clause-single
returns-clause-single c = answer_named

pub returns-clause-batch : goal.returns-clause-batch
returns-clause-batch c = answers_named
