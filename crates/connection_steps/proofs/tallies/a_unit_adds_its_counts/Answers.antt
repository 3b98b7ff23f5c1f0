use Rattle.connection_steps.proofs.Counted.{tally-came}
use Rattle.connection_steps.proofs.tallies.a_unit_adds_its_counts.Goals as goal

pub returns : goal.returns
returns c = tally-came
