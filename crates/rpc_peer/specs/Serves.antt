-- What a clerk has done with what came through the ring so far.
use Rattle.std.specs.Prelude.{◌≡◌, ℕ, List, Bool, true, false, Option, None}
use Rattle.std.specs.List.{list_all}
use Rattle.method_steps.specs.Steps.{MethodTable}
use Rattle.handler_future.specs.State.{HandlerState}
use Rattle.job_slots.specs.declared.view.Look.{Look}
use Rattle.peer_session.specs.declared.limits.Limits.{Limits}
use Rattle.stream_session.specs.Stream.{Fed, StreamState, StreamStands}
use Rattle.stream_framing.specs.Framed.{read_text}
use Rattle.stream_framing.specs.declared.framing.Framing.{Framing}
use Rattle.rpc_peer.specs.Arriving.{bytes_of, ending_of}
use Rattle.rpc_peer.specs.declared.arrival.Arrival.{Arrival}
use Rattle.rpc_peer.specs.declared.arrival.Arrival.TheVariants.{Piece, End}
use Rattle.rpc_peer.specs.Jobs.{AreOut}
use Rattle.rpc_peer.specs.declared.gated.Gated.{Gated}

abbrev pub is_piece : Arrival → Bool
is_piece (Piece bytes) = true
is_piece (End end) = false

-- A session was fed all that has arrived.
abbrev pub fed_by : Framing → MethodTable → Limits → List Arrival → Option (List ℕ) → Fed
fed_by framing table limits arrived before = record {
  framing = framing;
  table = table;
  limits = limits;
  bytes = read_text framing (ending_of arrived) (bytes_of arrived);
  ending = ending_of arrived;
  before = before;
}

-- It stands after what has arrived, with the jobs out that lie in the slots. While it is open, only pieces have arrived.
pub record ServesAfter {G : Type 0} (framing : Framing) (table : MethodTable) (limits : Limits) (arrived : List Arrival) (before : Option (List ℕ)) (s : StreamState)
    (looks : List (Look (Gated G))) (after : Option (List ℕ)) : Type 0 where
  pub jobs : ℕ → Option HandlerState
  pub stands : StreamStands (fed_by framing table limits arrived before) jobs s after
  pub goes_on : s.session.close ≡ None → list_all is_piece arrived ≡ true
  pub are_out : AreOut looks jobs
