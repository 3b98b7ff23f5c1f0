use Rattle.open_calls.proofs.Numbered.{at_above, without_above, up_to_above, above_filter}
use Rattle.open_calls.proofs.law.numbers_above_one.Goals as goal

pub returns-clause-at : goal.returns-clause-at
returns-clause-at g c = at_above

pub returns-clause-without : goal.returns-clause-without
returns-clause-without g c = without_above

pub returns-clause-up_to : goal.returns-clause-up_to
returns-clause-up_to g c = up_to_above

pub returns-clause-pass : goal.returns-clause-pass
returns-clause-pass g c = above_filter
