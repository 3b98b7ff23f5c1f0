use Rattle.call_laws.proofs.Counted.{adds_up}
use Rattle.call_laws.proofs.figures.what_is_open_came_and_was_not_closed.Goals as goal

pub returns : goal.returns
returns c = λ connection history told stands. adds_up connection.settings.cancels history stands.lawful
