use Rattle.std.proofs.Common.{◌≡◌}
use Rattle.peer_events.specs.Turns.{all_turns_left}
use Rattle.peer_session.specs.HandedOn.{HasHandedOn}
use Rattle.stream_session.specs.Stream.{Fed, stream_of}
use Rattle.peer_player.specs.Playing.{Plays, HasWritten, KeepsInput}
use Rattle.peer_player.proofs.playing.Playing.settle.Given as goal

-- all that was due is written, and the sink has not failed
abbrev pub invariant-loop-self : goal.invariant-loop-self
invariant-loop-self g l = ((fed : Fed) → Plays fed (stream_of l.fn.self.stream) (g.S.Sink.bytes_taken l.fn.self.sink) →
    HasWritten fed (stream_of l.self.stream) (g.S.Sink.bytes_taken l.self.sink))
    × KeepsInput (stream_of l.fn.self.stream) (stream_of l.self.stream)
    × ((stream_of l.self.stream).session.is_broken ≡ (stream_of l.fn.self.stream).session.is_broken)
    × (g.S.Sink.failures l.self.sink ≡ g.S.Sink.failures l.fn.self.sink)
    × HasHandedOn g.S.Sink.handed_on g.S.Sink.bytes_taken l.fn.self.sink l.self.sink

abbrev pub decreases-loop-self : goal.decreases-loop-self
decreases-loop-self g l = all_turns_left (stream_of l.self.stream).session.core.stages
