-- What a player has done with the bytes so far.
use Rattle.std.specs.Prelude.{ℕ, List, ◌++◌, Option}
use Rattle.lsp_frames.specs.Devices.{Finished, Unfinished}
use Rattle.method_steps.specs.Steps.{MethodTable}
use Rattle.peer_session.specs.declared.limits.Limits.{Limits}
use Rattle.peer_session.specs.declared.report.Report.{Report}
use Rattle.stream_framing.specs.declared.framing.Framing.{Framing}
use Rattle.stream_session.specs.Framings.{IsRunIn, IsShortIn, IsShortOf}
use Rattle.stream_session.specs.Stream.{Fed, StreamState}
use Rattle.peer_player.specs.Playing.{Plays}

abbrev pub fed_so_far : Framing → MethodTable → Limits → List ℕ → Option (List ℕ) → Fed
fed_so_far framing table limits bytes before = record { framing = framing; table = table; limits = limits; bytes = bytes; ending = Unfinished; before = before }

-- It stands after these bytes, whose input goes on.
abbrev pub PlaysAfter : Framing → MethodTable → Limits → List ℕ → Option (List ℕ) → StreamState → Option (List ℕ) → Type 0
PlaysAfter framing table limits bytes before s after = Plays (fed_so_far framing table limits bytes before) s after

-- It has stopped short, whatever bytes come behind these.
abbrev pub StoppedAfter : Framing → MethodTable → Limits → List ℕ → Option (List ℕ) → Option (List ℕ) → Type 0
StoppedAfter framing table limits bytes before after = (more : List ℕ) → IsShortOf framing table limits (bytes ++ more) before after

-- It has played these bytes to their end, or has stopped short of it.
abbrev pub IsPlayIn : Framing → MethodTable → Limits → List ℕ → Option (List ℕ) → Option (List ℕ) → Report → Type 0
IsPlayIn framing table limits input before after report = IsRunIn framing table limits input Finished before after report

abbrev pub IsPlayShortIn : Framing → MethodTable → Limits → List ℕ → Option (List ℕ) → Option (List ℕ) → Type 0
IsPlayShortIn framing table limits input before after = IsShortIn framing table limits input Finished before after
