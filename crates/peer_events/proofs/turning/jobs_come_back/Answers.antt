use Rattle.std.proofs.Common.{◌∙◌}
use Rattle.peer_events.proofs.Returned.{pending-back, cancelled-back, answered-back, failed-back, any-back, out-marked}
use Rattle.peer_events.proofs.turning.jobs_come_back.Goals as goal

pub returns-clause-waiting : goal.returns-clause-waiting
returns-clause-waiting c = λ table is_over s past jobs n job turned rest is_out polled reached.
    pending-back c.known.ensures table is_over s past jobs n job turned rest is_out polled (out-marked table is_over s past jobs n job rest is_out ∙ reached)

pub returns-clause-cancelled : goal.returns-clause-cancelled
returns-clause-cancelled c = λ table is_over s past jobs n job turned rest is_out polled reached.
    cancelled-back c.known.ensures table is_over s past jobs n job turned rest is_out polled (out-marked table is_over s past jobs n job rest is_out ∙ reached)

pub returns-clause-answered : goal.returns-clause-answered
returns-clause-answered c = λ table is_over s past jobs n job turned answer. answered-back c.known.ensures table is_over s past jobs n job turned answer

pub returns-clause-failed : goal.returns-clause-failed
returns-clause-failed c = failed-back c.known.ensures

pub returns-clause-any : goal.returns-clause-any
returns-clause-any c = any-back c.known.ensures
