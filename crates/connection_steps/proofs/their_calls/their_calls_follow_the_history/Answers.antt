use Rattle.connection_steps.proofs.TheirAfter.{after-called, after-called_all, after-noticed, after-withdrew, after-answered, after-ended}
use Rattle.connection_steps.proofs.TheirEntries.{theirs-came}
use Rattle.connection_steps.proofs.their_calls.their_calls_follow_the_history.Goals as goal

pub returns-clause-came : goal.returns-clause-came
returns-clause-came c = theirs-came

pub returns-clause-called : goal.returns-clause-called
returns-clause-called c = after-called

pub returns-clause-called_all : goal.returns-clause-called_all
returns-clause-called_all c = after-called_all

pub returns-clause-noticed : goal.returns-clause-noticed
returns-clause-noticed c = after-noticed

pub returns-clause-withdrew : goal.returns-clause-withdrew
returns-clause-withdrew c = after-withdrew

pub returns-clause-answered : goal.returns-clause-answered
returns-clause-answered c cancels past number answer lawful = after-answered past number answer

pub returns-clause-ended : goal.returns-clause-ended
returns-clause-ended c = after-ended
