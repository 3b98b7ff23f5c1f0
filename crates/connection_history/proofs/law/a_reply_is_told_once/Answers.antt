use Rattle.connection_history.proofs.RepliesTold.{first_told}
use Rattle.connection_history.proofs.RepliesWaiting.{waiting_told, not_waiting_told}
use Rattle.connection_history.proofs.Unanswered.{ended_told, none_unanswered}
use Rattle.connection_history.proofs.Waiting.{made_waits}
use Rattle.connection_history.proofs.law.a_reply_is_told_once.Goals as goal

pub returns-clause-first : goal.returns-clause-first
returns-clause-first c = first_told

pub returns-clause-waiting : goal.returns-clause-waiting
returns-clause-waiting c = waiting_told

pub returns-clause-not_waiting : goal.returns-clause-not_waiting
returns-clause-not_waiting c = not_waiting_told

pub returns-clause-ended : goal.returns-clause-ended
returns-clause-ended c = ended_told

pub returns-clause-unanswered : goal.returns-clause-unanswered
returns-clause-unanswered c = none_unanswered

pub returns-clause-made : goal.returns-clause-made
returns-clause-made c = made_waits
