use Rattle.handler_future.proofs.Within.{evaluation-within}
use Rattle.handler_future.proofs.law.turns_lie_within_the_calls.Goals as goal

pub returns : goal.returns
returns c = evaluation-within
