use Rattle.std.proofs.Common.{None, ap}
use Rattle.stream_framing.specs.Framed.{framing_of}
use Rattle.stream_session.specs.Stream.{StreamState, stream_of}
use Rattle.peer_player.proofs.Steps.{drain-close, drain-same, drain-turns, written}
use Rattle.peer_player.proofs.playing.Playing.drain.Goals as goal

pub returns-clause-ok : goal.returns-clause-ok
returns-clause-ok g c = λ fed had.
    written fed (stream_of c.drain.new.self) (g.S.Sink.bytes_taken c.drain.new.sink) c.drain.result (c.drain.ensures.drained fed (λ n. None) had)

pub returns-clause-err : goal.returns-clause-err
returns-clause-err g c = λ fed had. c.drain.ensures.short fed (λ n. None) had

pub returns-clause-input : goal.returns-clause-input
returns-clause-input g c = record {
  waiting = ap (λ (x : StreamState). x.waiting) c.drain.ensures.stays;
  last = ap (λ (x : StreamState). x.last) c.drain.ensures.stays;
  close = drain-close (framing_of (stream_of c.args.self.now.stream).cutter) (stream_of c.args.self.now.stream).session (stream_of c.drain.new.self).session (g.S.Sink.bytes_taken c.args.self.now.sink)
      (g.S.Sink.bytes_taken c.drain.new.sink) c.drain.result c.drain.ensures.drains;
}

pub returns-clause-turns : goal.returns-clause-turns
returns-clause-turns g c =
    drain-turns c.turned_handlers_have_fewer_turns_left.ensures.written (framing_of (stream_of c.args.self.now.stream).cutter) (stream_of c.args.self.now.stream).session (stream_of c.drain.new.self).session
    (g.S.Sink.bytes_taken c.args.self.now.sink) (g.S.Sink.bytes_taken c.drain.new.sink) c.drain.result c.drain.ensures.drains

pub returns-clause-same : goal.returns-clause-same
returns-clause-same g c =
    drain-same (framing_of (stream_of c.args.self.now.stream).cutter) (stream_of c.args.self.now.stream).session (stream_of c.drain.new.self).session (g.S.Sink.bytes_taken c.args.self.now.sink)
    (g.S.Sink.bytes_taken c.drain.new.sink) c.drain.result c.drain.ensures.drains
