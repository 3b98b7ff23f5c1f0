-- What a reader sends of a source.
use Rattle.std.specs.Prelude.{◌≡◌, ℕ, List, [], ◌∷◌, ◌++◌}
use Rattle.lsp_frames.specs.Devices.{Ending, Unfinished, Gift}
use Rattle.lsp_frames.specs.Devices as devices
use Rattle.rpc_peer.specs.declared.arrival.Arrival.{Arrival}
use Rattle.rpc_peer.specs.declared.arrival.Arrival.TheVariants.{Piece, End}
use Rattle.rpc_peer.specs.declared.arrival.InputEnd.{InputEnd}
use Rattle.rpc_peer.specs.declared.arrival.InputEnd.TheVariants.{Finished, Failed, Memory}

-- the pieces, joined
abbrev pub bytes_of : List Arrival → List ℕ
bytes_of [] = []
bytes_of (Piece bytes ∷ arrivals) = bytes ++ bytes_of arrivals
bytes_of (End end ∷ arrivals) = bytes_of arrivals

-- Of a source that was left for want of memory nothing more was asked.
abbrev pub ending_by : InputEnd → Ending
ending_by Finished = devices.Finished
ending_by Failed = devices.Failed
ending_by Memory = Unfinished

-- how the input came to its end, where that was sent
abbrev pub ending_of : List Arrival → Ending
ending_of [] = Unfinished
ending_of (Piece bytes ∷ arrivals) = ending_of arrivals
ending_of (End end ∷ arrivals) = ending_by end

-- What a source gives next, where it gives `before` and then `after`: a piece, or an end behind which it gives nothing.
abbrev pub GivesArrival : Gift → Gift → Arrival → Type 0
GivesArrival before after (Piece bytes) = (more : List ℕ) (ending : Ending) → after more ending → before (bytes ++ more) ending
GivesArrival before after (End end) = before [] (ending_by end)

-- A reader sends what its source gives: at any time the pieces so far; and where it sends an end, the source gives that end behind them, and
-- nothing is sent behind it.
pub record Reads (gave : Gift) (sent : List Arrival) : Type 0 where
  pub so_far : (front rest : List Arrival) → sent ≡ front ++ rest → gave (bytes_of front) Unfinished
  pub ended : (front rest : List Arrival) (end : InputEnd) → sent ≡ front ++ End end ∷ rest → (rest ≡ []) × gave (bytes_of front) (ending_by end)

-- The last item is an end.
pub record EndsBy (sent : List Arrival) : Type 0 where
  pub front : List Arrival
  pub end : InputEnd
  pub last : sent ≡ front ++ End end ∷ []
