use Rattle.open_calls.proofs.Numbered.{find_among, shorter}
use Rattle.open_calls.proofs.Rows.{at_changed}
use Rattle.open_calls.proofs.law.an_entry_changes_or_goes.Goals as goal

pub returns-clause-changed : goal.returns-clause-changed
returns-clause-changed g c = at_changed

pub returns-clause-fewer : goal.returns-clause-fewer
returns-clause-fewer g c = shorter

pub returns-clause-found : goal.returns-clause-found
returns-clause-found g c = find_among
