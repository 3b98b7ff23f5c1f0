-- What an arrival adds to what a session was fed.
use Rattle.std.specs.Prelude.{◌≡◌, ◌≢◌, ℕ, List, Option}
use Rattle.lsp_frames.specs.Devices.{Unfinished}
use Rattle.handler_future.specs.State.{HandlerState}
use Rattle.stream_session.specs.Stream.{Fed, StreamState, StreamStands, with_piece}
use Rattle.stream_framing.specs.Framed.{read_text}
use Rattle.rpc_peer.specs.Arriving.{ending_by}
use Rattle.rpc_peer.specs.declared.arrival.Arrival.{Arrival}
use Rattle.rpc_peer.specs.declared.arrival.Arrival.TheVariants.{Piece, End}

-- a piece, or the end
abbrev pub with_arrival : Fed → Arrival → Fed
with_arrival fed (Piece bytes) = with_piece fed bytes
with_arrival fed (End end) = record fed { bytes = read_text fed.framing (ending_by end) fed.bytes; ending = ending_by end }

-- An end is the source's own. A reader that found no memory has none to tell.
abbrev pub EndsInput : Arrival → Type 0
EndsInput (Piece bytes) = Unit {0}
EndsInput (End end) = ending_by end ≢ Unfinished

-- Whatever a session stands after, it now stands after this behind it.
abbrev pub TakesArrival : Arrival → StreamState → StreamState → Type 0
TakesArrival arrival s after = (fed : Fed) (jobs : ℕ → Option HandlerState) (sink : Option (List ℕ)) →
    StreamStands fed jobs s sink → fed.ending ≡ Unfinished → StreamStands (with_arrival fed arrival) jobs after sink
