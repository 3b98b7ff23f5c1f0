use Rattle.peer_events.proofs.Done.{all-over, drained-gone, drained-none}
use Rattle.peer_events.proofs.draining.nothing_is_stuck.Goals as goal

pub returns-clause-over : goal.returns-clause-over
returns-clause-over c = all-over

pub returns-clause-drained : goal.returns-clause-drained
returns-clause-drained c = λ table s past jobs rest none_ready none_out none_failed. (
  drained-gone table s past jobs rest none_ready none_out none_failed,
  drained-none table s past jobs rest none_ready none_out none_failed,
)
