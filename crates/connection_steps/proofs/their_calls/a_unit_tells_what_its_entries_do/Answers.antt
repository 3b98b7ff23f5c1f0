use Rattle.connection_steps.proofs.ToldEntries.{told-came}
use Rattle.connection_steps.proofs.their_calls.a_unit_tells_what_its_entries_do.Goals as goal

pub returns : goal.returns
returns c = told-came
