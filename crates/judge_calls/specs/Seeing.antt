-- What the host says that was seen.
use Rattle.std.specs.Prelude.{◌≡◌, ℕ, ◌==◌, List, [], ◌∷◌, ◌++◌, true, false, Option, Some, None, Ok, Err, option_map, option_and_then, if◌then◌else◌}
use Rattle.content_streams.specs.declared.ending.HowEnded.{HowEnded}
use Rattle.content_streams.specs.declared.ending.HowEnded.TheVariants.{Closed, ReadFailed}
use Rattle.content_streams.specs.declared.framing.Framing.{Framing}
use Rattle.conversation_judge.specs.Judged.{Judged, Stands, with_seen}
use Rattle.conversation_judge.specs.Said.{ended_as}
use Rattle.conversation_rules.specs.Judging.{Seen, Wrote}
use Rattle.conversation_rules.specs.declared.finding.Finding.{Finding}
use Rattle.conversation_rules.specs.declared.finding.Limits.{Limits}
use Rattle.conversation_rules.specs.declared.protocol.Protocol.{Protocol}
use Rattle.conversation_rules.specs.declared.side.Side.{Side}
use Rattle.conversation_rules.specs.declared.side.Side.TheVariants.{Client, Server}
use Rattle.judge_calls.specs.declared.code.NotSeen.TheVariants.{Memory, Settings}
use Rattle.judge_calls.specs.Codes.{Said}

abbrev pub side_of : ℕ → Option Side
side_of n = if n == 0 then Some Client else (if n == 1 then Some Server else None)

abbrev pub how_of : ℕ → Option HowEnded
how_of n = if n == 0 then Some Closed else (if n == 1 then Some ReadFailed else None)

-- what is meant by these numbers, where they mean anything
abbrev pub wrote_by : ℕ → List ℕ → Option Seen
wrote_by side bytes = option_map (λ side. Wrote side bytes) (side_of side)

abbrev pub ended_by : ℕ → ℕ → Option Seen
ended_by side how = option_and_then (λ side. option_map (ended_as side) (how_of how)) (side_of side)

-- From a to b one thing more was seen; and what was told and isn't told yet are the findings of all that was seen, with it.
abbrev pub Sees : Judged → Judged → Seen → Type 0
Sees a b it = (a.is_stopped ≡ false) × (b ≡ with_seen it a) × ((protocol : Protocol) (framing : Framing) (limits : Limits) (seen : List Seen) (told : List Finding)
    → Stands protocol framing limits a seen told → Stands protocol framing limits b (seen ++ it ∷ []) told)

-- Memory was refused: nothing more is seen, and what was found before is still there.
abbrev pub Stops : Judged → Judged → Type 0
Stops a b = (b.is_stopped ≡ true) × (b.untold ≡ a.untold)

abbrev pub HasSeen : Judged → Judged → Option Seen → Said → Type 0
HasSeen a b (Some it) (Ok _) = Sees a b it
HasSeen a b (Some it) (Err Memory) = Stops a b
HasSeen a b (Some it) (Err Settings) = ⊥
HasSeen a b None said = (said ≡ Err Settings) × (b ≡ a)
