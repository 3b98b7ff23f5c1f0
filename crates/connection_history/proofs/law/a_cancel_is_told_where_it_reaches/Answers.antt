use Rattle.connection_history.proofs.CancelsOpen.{open_told}
use Rattle.connection_history.proofs.CancelsReached.{reached_told}
use Rattle.connection_history.proofs.CancelsTold.{told_once, told_cancelled, answered_told}
use Rattle.connection_history.proofs.law.a_cancel_is_told_where_it_reaches.Goals as goal

pub returns-clause-once : goal.returns-clause-once
returns-clause-once c = told_once

pub returns-clause-reached : goal.returns-clause-reached
returns-clause-reached c = reached_told

pub returns-clause-open : goal.returns-clause-open
returns-clause-open c = open_told

pub returns-clause-cancelled : goal.returns-clause-cancelled
returns-clause-cancelled c = told_cancelled

pub returns-clause-answered : goal.returns-clause-answered
returns-clause-answered c = answered_told
