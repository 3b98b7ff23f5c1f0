use Rattle.connection_history.proofs.Ending.{over_last, unanswered_rise, cancelled_rise}
use Rattle.connection_history.proofs.law.the_end_is_told_last.Goals as goal

pub returns-clause-last : goal.returns-clause-last
returns-clause-last c = over_last

pub returns-clause-unanswered : goal.returns-clause-unanswered
returns-clause-unanswered c = unanswered_rise

pub returns-clause-cancelled : goal.returns-clause-cancelled
returns-clause-cancelled c = cancelled_rise
