use Rattle.answer_desk.proofs.Laws.{number-marked_below, number-marked_from}
use Rattle.answer_desk.proofs.law.cancel_reaches_numbers_below_it.Goals as goal

pub returns-clause-below : goal.returns-clause-below
returns-clause-below c = number-marked_below

pub returns-clause-from : goal.returns-clause-from
returns-clause-from c = number-marked_from
