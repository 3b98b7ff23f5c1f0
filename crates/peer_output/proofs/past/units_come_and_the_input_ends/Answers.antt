use Rattle.peer_output.proofs.Pasts.{units-past, end-past}
use Rattle.peer_output.proofs.past.units_come_and_the_input_ends.Goals as goal

pub returns-clause-units : goal.returns-clause-units
returns-clause-units c = units-past

pub returns-clause-end : goal.returns-clause-end
returns-clause-end c = end-past
