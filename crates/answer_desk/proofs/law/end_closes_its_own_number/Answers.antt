use Rattle.answer_desk.proofs.Laws.{number-ended, number-not_ended, next-ended}
use Rattle.answer_desk.proofs.law.end_closes_its_own_number.Goals as goal

pub returns-clause-here : goal.returns-clause-here
returns-clause-here c = number-ended

pub returns-clause-another : goal.returns-clause-another
returns-clause-another c = number-not_ended

pub returns-clause-next : goal.returns-clause-next
returns-clause-next c = next-ended
