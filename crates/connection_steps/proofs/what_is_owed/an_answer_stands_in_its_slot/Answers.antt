use Rattle.connection_steps.proofs.OwedGiven.{answered-owed, answered-answers}
use Rattle.connection_steps.proofs.what_is_owed.an_answer_stands_in_its_slot.Goals as goal

pub returns-clause-owed : goal.returns-clause-owed
returns-clause-owed c = answered-owed

pub returns-clause-written : goal.returns-clause-written
returns-clause-written c = answered-answers
