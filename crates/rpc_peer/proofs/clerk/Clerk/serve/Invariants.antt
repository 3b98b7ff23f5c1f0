use Rattle.rpc_peer.specs.Serving.{Start, Serves}
use Rattle.rpc_peer.proofs.clerk.Clerk.serve.Given as goal

-- all that has arrived was served
abbrev pub invariant-loop : goal.invariant-loop
invariant-loop g l = (start : Start g.row.K.Denot) → Serves g.K.Sink.handed_on g.K.Sink.bytes_taken g.K.Sink.failures start l.fn.self → Serves g.K.Sink.handed_on g.K.Sink.bytes_taken g.K.Sink.failures start l.self
