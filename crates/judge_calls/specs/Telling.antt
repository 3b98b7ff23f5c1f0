-- What the host gets of what was found.
use Rattle.std.specs.Prelude.{◌≡◌, ℕ, List, ◌++◌, map, min, length, take, drop}
use Rattle.content_streams.specs.declared.framing.Framing.{Framing}
use Rattle.conversation_judge.specs.Judged.{Judged, Stands}
use Rattle.conversation_rules.specs.Judging.{Seen}
use Rattle.conversation_rules.specs.declared.finding.Finding.{Finding}
use Rattle.conversation_rules.specs.declared.finding.Limits.{Limits}
use Rattle.conversation_rules.specs.declared.protocol.Protocol.{Protocol}
use Rattle.judge_calls.specs.declared.finding.HostFinding.{HostFinding}
use Rattle.judge_calls.specs.Findings.{as_c}

-- From a to b the first findings were told, so many; and what was told and isn't told yet are the findings of all that was seen, as before.
abbrev pub Tells : Judged → Judged → ℕ → Type 0
Tells a b n = (b ≡ record a { untold = drop n a.untold }) × ((protocol : Protocol) (framing : Framing) (limits : Limits) (seen : List Seen) (told : List Finding)
    → Stands protocol framing limits a seen told → Stands protocol framing limits b seen (told ++ take n a.untold))

-- From the room r to s they were moved: as many as there are, or as there is room for.
abbrev pub HasTold : Judged → Judged → List HostFinding → List HostFinding → ℕ → Type 0
HasTold a b r s n = (n ≡ min (length a.untold) (length r)) × (s ≡ map as_c (take n a.untold) ++ drop n r) × Tells a b n
