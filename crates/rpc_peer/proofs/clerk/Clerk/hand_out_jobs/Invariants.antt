use Rattle.std.proofs.Common.{◌≡◌, ◌+◌}
use Rattle.job_slots.specs.Seats.{looks_of}
use Rattle.rpc_peer.specs.Moves.{free_count}
use Rattle.rpc_peer.specs.Serving.{Start, Serves}
use Rattle.rpc_peer.proofs.clerk.Clerk.hand_out_jobs.Given as goal

-- so many jobs went out
abbrev pub invariant-loop : goal.invariant-loop
invariant-loop g l = record {
  serves : (start : Start g.row.K.Denot) → Serves g.K.Sink.handed_on g.K.Sink.bytes_taken g.K.Sink.failures start l.fn.self
      → Serves g.K.Sink.handed_on g.K.Sink.bytes_taken g.K.Sink.failures start l.self;
  told : free_count (looks_of l.fn.self.seat) ≡ free_count (looks_of l.self.seat) + l.gone;
  many : l.gone ≡ l.counter;
}
