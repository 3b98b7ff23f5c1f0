use Rattle.connection.specs.Inner.{left, HasGone}
use Rattle.connection.proofs.connection.Connection.next_event.Given as goal

abbrev pub invariant-loop-event : goal.invariant-loop-event
invariant-loop-event l = HasGone l.initial.self l.self

abbrev pub decreases-loop-event : goal.decreases-loop-event
decreases-loop-event l = left l.self
