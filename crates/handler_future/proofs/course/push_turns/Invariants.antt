use Rattle.std.proofs.Common.{◌≡◌, ◌≤◌, ◌+◌, ◌-◌, ◌++◌, vec_len, vec_capacity}
use Rattle.std.specs.List.{range_with_len}
use Rattle.handler_future.proofs.course.push_turns.Given as goal

abbrev pub invariant-loop-awaited : goal.invariant-loop-awaited
invariant-loop-awaited l = record {
  pushed : l.waits.items ++ range_with_len l.awaited (l.awaited-end - l.awaited) ≡ l.initial.waits.items ++ range_with_len l.turn l.calls;
  room : vec_len l.waits + (l.awaited-end - l.awaited) ≤ vec_capacity l.waits;
}
