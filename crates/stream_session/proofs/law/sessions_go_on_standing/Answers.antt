-- Each call is an event of the session's state, and keeps its counts.
use Rattle.stream_framing.specs.declared.framing.Framing.TheVariants.{Frames}
use Rattle.stream_session.proofs.Jobs.{job-back, job-out, none-yet}
use Rattle.stream_session.proofs.Units.{ends, unit-taken}
use Rattle.stream_session.proofs.Written.{starts, drains}
use Rattle.stream_session.proofs.law.sessions_go_on_standing.Goals as goal

pub returns-clause-new : goal.returns-clause-new
returns-clause-new c = λ table limits. starts c.known.ensures table limits

pub returns-clause-take : goal.returns-clause-take
returns-clause-take c = λ table limits units items s after jobs unit how had is_open uncut takes.
    unit-taken c.known.ensures table limits units unit items s after jobs had is_open uncut how takes

pub returns-clause-end : goal.returns-clause-end
returns-clause-end c = λ table limits units items s jobs close had is_open. ends c.known.ensures table limits units items s jobs close is_open had

pub returns-clause-next_job : goal.returns-clause-next_job
returns-clause-next_job c = λ table limits units items s after jobs pick job had leaves. (
  job-out c.known.ensures table limits units items s jobs had pick job after leaves,
  none-yet c.known.ensures table limits units items s jobs had pick job after leaves,
)

pub returns-clause-back : goal.returns-clause-back
returns-clause-back c = λ table limits units items s jobs n job turned had out unpolled turns.
    job-back c.known.ensures table limits units items s jobs had n job turned out unpolled turns

pub returns-clause-drain : goal.returns-clause-drain
returns-clause-drain c = λ table limits units items s after jobs before at sink had wrote writes.
    drains c.known.ensures table limits units items s jobs had Frames before at sink wrote after writes
