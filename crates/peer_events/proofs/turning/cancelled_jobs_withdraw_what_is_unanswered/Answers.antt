use Rattle.peer_events.proofs.Returned.{withdraws-unanswered, withdraws-nothing}
use Rattle.peer_events.proofs.turning.cancelled_jobs_withdraw_what_is_unanswered.Goals as goal

pub returns-clause-unanswered : goal.returns-clause-unanswered
returns-clause-unanswered c = λ table s past jobs n job turned rest is_out polled. withdraws-unanswered c.known.ensures table s past jobs n job turned is_out polled rest

pub returns-clause-over : goal.returns-clause-over
returns-clause-over c = λ table s past jobs n job turned rest is_out polled. withdraws-nothing c.known.ensures table s past jobs n job turned is_out polled rest
