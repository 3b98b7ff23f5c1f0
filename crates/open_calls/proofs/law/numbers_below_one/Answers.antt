use Rattle.std.proofs.Common.{arith}
use Rattle.open_calls.proofs.Numbered.{below_more, below_push, up_to_all}
use Rattle.open_calls.proofs.law.numbers_below_one.Goals as goal

pub returns-clause-more : goal.returns-clause-more
returns-clause-more g c = below_more

pub returns-clause-push : goal.returns-clause-push
returns-clause-push g c = λ m n x es lt under. below_push m m n x es (omega arith) lt under

pub returns-clause-up_to : goal.returns-clause-up_to
returns-clause-up_to g c = up_to_all
