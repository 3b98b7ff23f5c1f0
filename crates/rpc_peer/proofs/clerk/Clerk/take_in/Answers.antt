-- What arrives is taken, or the run stops short before it.
use Rattle.std.proofs.Common.{sym, subst}
use Rattle.rtrb.specs.Ring.{received}
use Rattle.job_slots.specs.Seats.{looks_of}
use Rattle.stream_session.specs.Framings.{IsShortIn}
use Rattle.stream_session.specs.Stream.{stream_of}
use Rattle.rpc_peer.specs.Arriving.{bytes_of, ending_of}
use Rattle.rpc_peer.specs.Serves.{ServesAfter, fed_by}
use Rattle.rpc_peer.proofs.Arriving.{was-open}
use Rattle.rpc_peer.proofs.Happenings.{arrives, cut-later}
use Rattle.rpc_peer.proofs.Rings.{same-on}
use Rattle.rpc_peer.proofs.clerk.Clerk.take_in.Goals as goal

pub returns-in_default-take_arrival-clause-err : goal.returns-in_default-take_arrival-clause-err
returns-in_default-take_arrival-clause-err g c = λ start had.
    let self = c.args.self.now in
    let s = stream_of self.stream in
    let at = g.K.Sink.bytes_taken self.sink in
    record {
      short = subst (λ xs. IsShortIn start.framing start.table start.limits (bytes_of xs) (ending_of xs) (g.K.Sink.bytes_taken start.sink) at) (sym c.in-Ok.ensures.ok.0)
          (cut-later start.framing start.table start.limits (received self.ring) (g.K.Sink.bytes_taken start.sink) s (looks_of self.seat) at had.after
          (c.what_a_stream_wrote.ensures.short (fed_by start.framing start.table start.limits (received self.ring) (g.K.Sink.bytes_taken start.sink)) had.after.jobs s at had.after.stands)
          (was-open s.session.close c.is_open.result c.is_open.ensures c.if-not-is_open.false) c.in-Ok.arrival);
      ring = same-on start.ring self.ring c.pop.new.self had.ring c.in-Ok.ensures.ring;
      cause = had.unfailing;
      flushed = had.flushed;
    }

pub returns-clause-ok : goal.returns-clause-ok
returns-clause-ok g c = λ start had.
    let self = c.args.self.now in
    let s = stream_of self.stream in
    let at = g.K.Sink.bytes_taken self.sink in
    record {
      after = subst (λ xs. ServesAfter start.framing start.table start.limits xs (g.K.Sink.bytes_taken start.sink) (stream_of c.take_arrival.new.stream) (looks_of self.seat) at)
          (sym c.in-Ok.ensures.ok.0)
          (arrives start.framing start.table start.limits (received self.ring) (g.K.Sink.bytes_taken start.sink) s (looks_of self.seat) at had.after
          (was-open s.session.close c.is_open.result c.is_open.ensures c.if-not-is_open.false) c.in-Ok.arrival (stream_of c.take_arrival.new.stream)
          c.in-Ok-take_arrival.ensures.takes c.in-Ok-take_arrival.ensures.taken c.in-Ok-take_arrival.ensures.ends);
      ring = same-on start.ring self.ring c.pop.new.self had.ring c.in-Ok.ensures.ring;
      unfailing = had.unfailing;
      flushed = had.flushed;
    }
