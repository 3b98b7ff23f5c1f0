use Rattle.std.proofs.Common.{◌≡◌, map, length}
use Rattle.peer_events.specs.Turning.{written_stage}
use Rattle.session_runs.specs.Runs.{unwritten_numbers}
use Rattle.peer_session.proofs.writing.note_written.Given as goal

abbrev pub invariant-loop-number : goal.invariant-loop-number
invariant-loop-number l = record {
  desk : l.runs.desk ≡ l.initial.runs.desk;
  stages : map written_stage l.runs.stages ≡ map written_stage l.initial.runs.stages;
}

abbrev pub decreases-loop-number : goal.decreases-loop-number
decreases-loop-number l = length (unwritten_numbers l.runs)
