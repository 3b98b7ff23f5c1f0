use Rattle.handler_future.proofs.Fronts.{front-begins}
use Rattle.handler_future.proofs.law.front_begins_the_messages.Goals as goal

pub returns : goal.returns
returns c = front-begins
