use Rattle.std.proofs.Common.{◌≡◌, ℕ, List, [], take, flat_map, Option}
use Rattle.method_steps.specs.Steps.{MethodTable}
use Rattle.peer_session.specs.HandedOn.{HasHandedOn}
use Rattle.peer_session.specs.declared.limits.Limits.{Limits}
use Rattle.stream_framing.specs.declared.framing.Framing.TheVariants.{Frames}
use Rattle.stream_session.specs.Stream.{stream_of}
use Rattle.peer_player.specs.Player.{PlaysAfter}
use Rattle.peer_player.proofs.whole.play_all.Given as goal

-- the pieces so far were played, and the sink has not failed
abbrev pub invariant-loop-piece : goal.invariant-loop-piece
invariant-loop-piece g l = ((table : MethodTable) (limits : Limits) (before : Option (List ℕ)) →
    PlaysAfter Frames table limits [] before (stream_of l.fn.player.playing.stream) (g.S.Sink.bytes_taken l.fn.player.playing.sink) →
    PlaysAfter Frames table limits (flat_map (λ piece. piece.items) (take l.piece-index l.pieces)) before (stream_of l.player.playing.stream)
    (g.S.Sink.bytes_taken l.player.playing.sink))
    × ((stream_of l.player.playing.stream).session.is_broken ≡ (stream_of l.fn.player.playing.stream).session.is_broken)
    × (g.S.Sink.failures l.player.playing.sink ≡ g.S.Sink.failures l.fn.player.playing.sink)
    × HasHandedOn g.S.Sink.handed_on g.S.Sink.bytes_taken l.fn.player.playing.sink l.player.playing.sink
