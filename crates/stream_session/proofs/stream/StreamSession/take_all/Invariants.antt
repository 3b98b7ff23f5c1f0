use Rattle.std.proofs.Common.{◌≡◌, ℕ, List, length, Option}
use Rattle.handler_future.specs.State.{HandlerState}
use Rattle.stream_session.specs.Stream.{Fed, StreamStands, stream_of}
use Rattle.stream_session.proofs.stream.StreamSession.take_all.Given as goal

-- the contents so far were taken
abbrev pub invariant-loop : goal.invariant-loop
invariant-loop l = ((fed : Fed) (jobs : ℕ → Option HandlerState) (sink : Option (List ℕ)) →
    StreamStands fed jobs (stream_of l.fn.self) sink → StreamStands fed jobs (stream_of l.self) sink)
    × ((stream_of l.self).last ≡ (stream_of l.fn.self).last)
    × ((stream_of l.self).session.is_broken ≡ (stream_of l.fn.self).session.is_broken)

abbrev pub decreases-loop : goal.decreases-loop
decreases-loop l = length (stream_of l.self).waiting
