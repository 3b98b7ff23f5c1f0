use Rattle.connection_steps.proofs.OwnFollows.{own_came, own_called, own_called_all, own_withdrew, own_answered, own_ended}
use Rattle.connection_steps.proofs.own_calls.our_calls_follow_the_history.Goals as goal

pub returns-clause-came : goal.returns-clause-came
returns-clause-came c = own_came

pub returns-clause-called : goal.returns-clause-called
returns-clause-called c = own_called

pub returns-clause-called_all : goal.returns-clause-called_all
returns-clause-called_all c = own_called_all

pub returns-clause-withdrew : goal.returns-clause-withdrew
returns-clause-withdrew c = own_withdrew

pub returns-clause-answered : goal.returns-clause-answered
returns-clause-answered c = own_answered

pub returns-clause-ended : goal.returns-clause-ended
returns-clause-ended c = own_ended
