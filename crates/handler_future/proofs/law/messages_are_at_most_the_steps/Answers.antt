use Rattle.handler_future.proofs.Lengths.{evaluation-few}
use Rattle.handler_future.proofs.law.messages_are_at_most_the_steps.Goals as goal

pub returns : goal.returns
returns c = evaluation-few
