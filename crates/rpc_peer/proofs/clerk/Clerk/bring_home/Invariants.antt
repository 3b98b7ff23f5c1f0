use Rattle.std.proofs.Common.{◌≡◌}
use Rattle.rtrb.specs.Ring.{received}
use Rattle.job_slots.specs.Seats.{looks_of}
use Rattle.rpc_peer.specs.Moves.{BringsSomeHome}
use Rattle.rpc_peer.specs.Serving.{Start, Serves}
use Rattle.rpc_peer.proofs.clerk.Clerk.bring_home.Given as goal

-- the slots so far were looked at
abbrev pub invariant-loop : goal.invariant-loop
invariant-loop g l = record {
  serves : (start : Start g.row.K.Denot) → Serves g.K.Sink.handed_on g.K.Sink.bytes_taken g.K.Sink.failures start l.fn.self
      → Serves g.K.Sink.handed_on g.K.Sink.bytes_taken g.K.Sink.failures start l.self;
  told : BringsSomeHome (looks_of l.fn.self.seat) l.has_moved (looks_of l.self.seat);
  ring : received l.self.ring ≡ received l.fn.self.ring;
}
