-- Each round goes on with what the last has left; once all is done it is a whole run.
use Rattle.std.proofs.Common.{sym, subst}
use Rattle.rtrb.specs.Ring.{received}
use Rattle.stream_session.specs.Framings.{IsRunIn}
use Rattle.stream_session.specs.Stream.{stream_of}
use Rattle.rpc_peer.specs.Arriving.{bytes_of, ending_of}
use Rattle.rpc_peer.specs.Serves.{fed_by}
use Rattle.rpc_peer.proofs.clerk.Clerk.serve.Goals as goal

pub returns-then-is_done-clause-ok : goal.returns-then-is_done-clause-ok
returns-then-is_done-clause-ok g c = λ start had.
    let now = c.in_ok-has_come.ensures.ok start (c.loop.invariant start had) in
    let self = c.settle.new.self in
    let sink = g.K.Sink.bytes_taken self.sink in
    record {
      whole = subst (IsRunIn start.framing start.table start.limits (bytes_of (received self.ring)) (ending_of (received self.ring)) (g.K.Sink.bytes_taken start.sink) sink) (sym c.report.ensures)
          (c.what_a_stream_wrote.ensures.whole (fed_by start.framing start.table start.limits (received self.ring) (g.K.Sink.bytes_taken start.sink)) now.after.jobs (stream_of self.stream) sink
          now.after.stands (c.is_done.ensures.0 c.if-is_done.true));
      ring = now.ring;
      unfailing = now.unfailing;
      flushed = now.flushed;
    }

pub loop-preserved-then-has_gone : goal.loop-preserved-then-has_gone
loop-preserved-then-has_gone g c = λ start had.
    c.hand_out-has_gone.ensures.serves start (c.in_ok-has_come.ensures.ok start (c.loop.invariant start had))

pub loop-preserved-then-has_gone-2 : goal.loop-preserved-then-has_gone-2
loop-preserved-then-has_gone-2 g c = λ start had.
    c.hand_out-has_gone.ensures.serves start (c.in_ok-has_come.ensures.ok start (c.loop.invariant start had))

pub loop-preserved : goal.loop-preserved
loop-preserved g c = λ start had.
    c.hand_out-has_gone.ensures.serves start (c.in_ok-has_come.ensures.ok start (c.loop.invariant start had))
