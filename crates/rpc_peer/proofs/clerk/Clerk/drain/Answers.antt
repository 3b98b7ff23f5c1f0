-- A drain writes what is due, or stops the run short.
use Rattle.std.proofs.Common.{Err, subst, ◌∙◌}
use Rattle.rtrb.specs.Ring.{received}
use Rattle.job_slots.specs.Seats.{looks_of}
use Rattle.stream_framing.specs.Framed.{framing_of}
use Rattle.stream_session.specs.Stream.{stream_of}
use Rattle.peer_session.proofs.HandedOn.{hands-err, hands-ok, hands-then}
use Rattle.rpc_peer.specs.Clerk.{CountsRun}
use Rattle.rpc_peer.specs.Serves.{fed_by}
use Rattle.rpc_peer.proofs.Happenings.{drains, drain-stops, drain-counts, drain-keeps, is-drained}
use Rattle.rpc_peer.proofs.Results.{OnOk-with, IfErr-with}
use Rattle.rpc_peer.proofs.clerk.Clerk.drain.Goals as goal

pub returns-clause-ok : goal.returns-clause-ok
returns-clause-ok g c = λ start had.
    let self = c.args.self.now in
    let at = g.K.Sink.bytes_taken self.sink in
    let sink = g.K.Sink.bytes_taken c.drain.new.sink in
    OnOk-with c.drain.result (λ served kept hands. record { after = served; ring = had.ring; unfailing = kept ∙ had.unfailing; flushed = hands })
    (drains start.framing start.table start.limits (received self.ring) (g.K.Sink.bytes_taken start.sink) (stream_of self.stream) (looks_of self.seat) at had.after
    (framing_of (stream_of self.stream).cutter) (stream_of c.drain.new.self) sink c.drain.result c.drain.ensures.drains
    (c.drain.ensures.drained (fed_by start.framing start.table start.limits (received self.ring) (g.K.Sink.bytes_taken start.sink)) had.after.jobs had.after.stands))
    (drain-keeps (stream_of self.stream).session (g.K.Sink.failures self.sink) (g.K.Sink.failures c.drain.new.sink) c.drain.result c.drain.ensures.cause)
    (hands-ok g.K.Sink.handed_on g.K.Sink.bytes_taken start.sink c.drain.new.sink c.drain.result
    (hands-then g.K.Sink.handed_on g.K.Sink.bytes_taken start.sink self.sink c.drain.new.sink c.drain.result had.flushed c.drain.ensures.flushed))

pub returns-clause-drained : goal.returns-clause-drained
returns-clause-drained g c =
    is-drained (framing_of (stream_of c.args.self.now.stream).cutter) (stream_of c.args.self.now.stream).session (stream_of c.drain.new.self).session (g.K.Sink.bytes_taken c.args.self.now.sink)
    (g.K.Sink.bytes_taken c.drain.new.sink) c.drain.result c.drain.ensures.drains

pub returns-clause-err : goal.returns-clause-err
returns-clause-err g c = λ start had.
    let self = c.args.self.now in
    let at = g.K.Sink.bytes_taken self.sink in
    let sink = g.K.Sink.bytes_taken c.drain.new.sink in
    IfErr-with c.drain.result
    (λ fault short cause hands. record {
      short = short;
      ring = had.ring;
      cause = subst (λ n. CountsRun n (Err fault) (g.K.Sink.failures c.drain.new.sink)) had.unfailing cause;
      flushed = hands;
    })
    (drain-stops start.framing start.table start.limits (received self.ring) (g.K.Sink.bytes_taken start.sink) (stream_of self.stream) (looks_of self.seat) at had.after sink c.drain.result
    (c.drain.ensures.short (fed_by start.framing start.table start.limits (received self.ring) (g.K.Sink.bytes_taken start.sink)) had.after.jobs had.after.stands))
    (drain-counts start.framing start.table start.limits (received self.ring) (g.K.Sink.bytes_taken start.sink) (stream_of self.stream) (looks_of self.seat) at had.after
    (g.K.Sink.failures self.sink) (g.K.Sink.failures c.drain.new.sink) c.drain.result c.drain.ensures.cause)
    (hands-err g.K.Sink.handed_on g.K.Sink.bytes_taken start.sink c.drain.new.sink c.drain.result
    (hands-then g.K.Sink.handed_on g.K.Sink.bytes_taken start.sink self.sink c.drain.new.sink c.drain.result had.flushed c.drain.ensures.flushed))
