use Rattle.std.proofs.Common.{nat_lt}
use Rattle.std.proofs.lemmas.Bool.{ltb-true}
use Rattle.handler_future.specs.Evaluation.{first_registers}
use Rattle.handler_future.proofs.Fronts.{eval-alike}
use Rattle.handler_future.proofs.law.earlier_replies_decide.Goals as goal

pub returns : goal.returns
returns c = λ p t R S same. eval-alike (λ u. nat_lt u t) R S (λ u h. same u (ltb-true u t h)) 0 p.steps (first_registers p) 1
