use Rattle.judge_laws.proofs.Batches.{calls_keyed}
use Rattle.judge_laws.proofs.SaidStrictly.{call_keyed}
use Rattle.judge_laws.proofs.said.calls_have_their_keys.Goals as goal

pub returns-clause-single : goal.returns-clause-single
returns-clause-single c = call_keyed

pub returns-clause-batch : goal.returns-clause-batch
returns-clause-batch c = calls_keyed
