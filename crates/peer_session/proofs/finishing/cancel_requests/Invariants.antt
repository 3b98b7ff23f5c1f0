use Rattle.peer_events.specs.Core.{Core}
use Rattle.peer_events.specs.Finishing.{Reaches}
use Rattle.peer_session.specs.Inner.Marks.{count_in_reach}
use Rattle.peer_session.proofs.finishing.cancel_requests.Given as goal

-- what follows from here follows from the beginning
abbrev pub invariant-loop-reached : goal.invariant-loop-reached
invariant-loop-reached l = (after : Core) → Reaches l.id l.number l.runs after → Reaches l.id l.number l.initial.runs after

abbrev pub decreases-loop-reached : goal.decreases-loop-reached
decreases-loop-reached l = count_in_reach l.id l.runs.desk.numbers
