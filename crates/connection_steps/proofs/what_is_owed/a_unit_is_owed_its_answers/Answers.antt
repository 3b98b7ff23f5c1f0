use Rattle.connection_steps.proofs.OwedSteps.{came-owed, came-answers}
use Rattle.connection_steps.proofs.what_is_owed.a_unit_is_owed_its_answers.Goals as goal

pub returns-clause-owed : goal.returns-clause-owed
returns-clause-owed c = came-owed

pub returns-clause-written : goal.returns-clause-written
returns-clause-written c = came-answers
