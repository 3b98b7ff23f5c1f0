use Rattle.std.proofs.Common.{◌≡◌, All, length}
use Rattle.std.specs.Arc.{arc_value}
use Rattle.rpc_peer.proofs.clerk.one_for_each_slot.Given as goal

-- a handle for each slot so far
abbrev pub invariant-loop : goal.invariant-loop
invariant-loop g l = record {
  each : All (λ handle. arc_value handle ≡ arc_value l.gate) l.gates.items;
  many : length l.gates.items ≡ l.counter;
}
