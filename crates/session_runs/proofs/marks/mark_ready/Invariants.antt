use Rattle.std.proofs.Common.{◌≡◌, ◌≤◌, ◌<◌, ℕ}
use Rattle.answer_desk.specs.Desk.{view as desk_view}
use Rattle.number_set.specs.Numbers.{HasRoom, is_in}
use Rattle.peer_events.specs.Stages.{stage_at}
use Rattle.peer_events.specs.Turning.{is_ready_stage}
use Rattle.session_runs.proofs.marks.mark_ready.Given as goal

abbrev pub invariant-loop-number : goal.invariant-loop-number
invariant-loop-number l = record {
  from : l.first ≤ l.number;
  within : (n : ℕ) → l.first ≤ n → n < l.number → is_in l.set n ≡ is_ready_stage (desk_view l.desk) (stage_at l.stages n);
  below : (n : ℕ) → n < l.first → is_in l.set n ≡ is_in l.initial.set n;
  beyond : (n : ℕ) → l.number ≤ n → is_in l.set n ≡ is_in l.initial.set n;
  room : (n : ℕ) → HasRoom l.initial.set n → HasRoom l.set n;
}
