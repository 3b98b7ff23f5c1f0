use Rattle.answer_desk.proofs.Laws.{number-reached, number-not_reached, marks-step, marks-last}
use Rattle.answer_desk.proofs.law.reach_marks_one_number.Goals as goal

pub returns-clause-here : goal.returns-clause-here
returns-clause-here c = number-reached

pub returns-clause-another : goal.returns-clause-another
returns-clause-another c = number-not_reached

pub returns-clause-step : goal.returns-clause-step
returns-clause-step c = marks-step

pub returns-clause-last : goal.returns-clause-last
returns-clause-last c = marks-last
