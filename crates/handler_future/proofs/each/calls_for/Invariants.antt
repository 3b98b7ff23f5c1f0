use Rattle.std.proofs.Common.{◌≤◌, ◌+◌, drop, length, vec_len, vec_capacity}
use Rattle.handler_future.proofs.Elements.{CalledBefore}
use Rattle.handler_future.proofs.each.calls_for.Given as goal

abbrev pub invariant-loop-element : goal.invariant-loop-element
invariant-loop-element l = record {
  called : CalledBefore l.method l.elements l.calls.items (drop l.element-index l.elements);
  room : vec_len l.calls + length (drop l.element-index l.elements) ≤ vec_capacity l.calls;
}
