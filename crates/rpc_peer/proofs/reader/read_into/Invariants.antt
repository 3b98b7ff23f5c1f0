use Rattle.std.proofs.Common.{◌≡◌, vec_len}
use Rattle.rtrb.specs.Ring.{sent, SameProducer}
use Rattle.rpc_peer.proofs.Sent.{ReadsOn}
use Rattle.rpc_peer.proofs.reader.read_into.Given as goal

-- no end was sent so far, and what the source gives now is behind what was sent
abbrev pub invariant-loop : goal.invariant-loop
invariant-loop g l =
    SameProducer l.fn.ring l.ring × (vec_len l.room ≡ 16384) × ReadsOn (g.S.Source.gave l.fn.source) (g.S.Source.gave l.source) (sent l.ring)
