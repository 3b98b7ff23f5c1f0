use Rattle.std.proofs.Common.{◌≡◌}
use Rattle.rtrb.specs.Ring.{sent, SameProducer}
use Rattle.rpc_peer.proofs.reader.send.Given as goal

abbrev pub invariant-loop : goal.invariant-loop
invariant-loop g l = SameProducer l.fn.ring l.ring × (sent l.ring ≡ sent l.fn.ring) × (l.arrival ≡ l.fn.arrival)
