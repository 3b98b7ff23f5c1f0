use Rattle.handler_future.proofs.Fronts.{front-same}
use Rattle.handler_future.proofs.law.front_is_the_same_under_every_map.Goals as goal

pub returns : goal.returns
returns c = front-same
