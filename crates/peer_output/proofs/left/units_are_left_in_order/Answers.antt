use Rattle.peer_output.proofs.Lefts.{unit-new, unit-numbered, left-append}
use Rattle.peer_output.proofs.left.units_are_left_in_order.Goals as goal

pub returns-clause-opened : goal.returns-clause-opened
returns-clause-opened c = unit-new

pub returns-clause-numbers : goal.returns-clause-numbers
returns-clause-numbers c = unit-numbered

pub returns-clause-behind : goal.returns-clause-behind
returns-clause-behind c = left-append
