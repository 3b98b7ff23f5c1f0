use Rattle.std.proofs.Common.{◌≡◌, ◌-◌, false, length, drop}
use Rattle.peer_events.specs.Core.{stage_at, with_desk}
use Rattle.peer_events.specs.Hearing.{hear_turns, hear_waits}
use Rattle.session_runs.specs.Runs.{is_idle}
use Rattle.peer_session.proofs.hearing.hear_waits.Given as goal

abbrev pub invariant-loop-turn : goal.invariant-loop-turn
invariant-loop-turn l = record {
  heard : hear_turns l.runs.desk l.handler (drop l.passed l.handler.waits) ≡ hear_waits l.initial.runs.desk l.initial.handler;
  runs : l.runs ≡ with_desk l.initial.runs l.runs.desk;
  number : l.handler.number ≡ l.initial.handler.number;
  away : is_idle (stage_at l.runs l.handler.number) ≡ false;
}

abbrev pub decreases-loop-turn : goal.decreases-loop-turn
decreases-loop-turn l = length l.handler.waits - l.passed
