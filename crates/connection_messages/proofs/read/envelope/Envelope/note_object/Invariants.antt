use Rattle.std.proofs.Common.{ℕ, ◌-◌, ◌+◌, ◌<◌, List, Option, length}
use Rattle.json.specs.Json.{Json}
use Rattle.connection_messages.proofs.Noted.{AreNoted, IsBehind}
use Rattle.connection_messages.proofs.read.envelope.Envelope.note_object.Given as goal

abbrev pub invariant-loop-at : goal.invariant-loop-at
invariant-loop-at l = (l.start < l.at) × (note : List ℕ → Option Json) × AreNoted l.self note × IsBehind l.levels l.bytes (l.start + 1) l.at note

abbrev pub decreases-loop-at : goal.decreases-loop-at
decreases-loop-at l = length l.bytes - l.at
