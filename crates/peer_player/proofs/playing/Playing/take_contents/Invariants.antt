use Rattle.std.proofs.Common.{◌≡◌, length}
use Rattle.peer_session.specs.HandedOn.{HasHandedOn}
use Rattle.stream_session.specs.Stream.{Fed, stream_of}
use Rattle.peer_player.specs.Playing.{Plays}
use Rattle.peer_player.proofs.playing.Playing.take_contents.Given as goal

-- the contents so far were taken, and the sink has not failed
abbrev pub invariant-loop-self : goal.invariant-loop-self
invariant-loop-self g l = ((fed : Fed) → Plays fed (stream_of l.fn.self.stream) (g.S.Sink.bytes_taken l.fn.self.sink) →
    Plays fed (stream_of l.self.stream) (g.S.Sink.bytes_taken l.self.sink))
    × ((stream_of l.self.stream).last ≡ (stream_of l.fn.self.stream).last)
    × ((stream_of l.self.stream).session.is_broken ≡ (stream_of l.fn.self.stream).session.is_broken)
    × (g.S.Sink.failures l.self.sink ≡ g.S.Sink.failures l.fn.self.sink)
    × HasHandedOn g.S.Sink.handed_on g.S.Sink.bytes_taken l.fn.self.sink l.self.sink

abbrev pub decreases-loop-self : goal.decreases-loop-self
decreases-loop-self g l = length (stream_of l.self.stream).waiting
