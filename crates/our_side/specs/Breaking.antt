-- That none of what was found says of a side that it broke one of some rules.
use Rattle.std.specs.Prelude.{◌≡◌, ◌&&◌, not, List, [], ◌∷◌, Bool, true, false, ⊤}
use Rattle.conversation_rules.specs.declared.finding.Finding.{Finding}
use Rattle.conversation_rules.specs.declared.finding.Rule.{Rule}
use Rattle.conversation_rules.specs.declared.finding.Rule.TheVariants as rules
use Rattle.conversation_rules.specs.declared.level.Level.{Level}
use Rattle.conversation_rules.specs.declared.level.Level.TheVariants.{Must, Should, Note}
use Rattle.conversation_rules.specs.declared.side.Side.{Side}
use Rattle.conversation_rules.specs.declared.side.Side.TheVariants.{Client, Server}

abbrev pub same_side : Side → Side → Bool
same_side Client Client = true
same_side Client Server = false
same_side Server Client = false
same_side Server Server = true

-- a finding says that this side broke one of these rules
abbrev pub tells_of : Side → (Rule → Bool) → Finding → Bool
tells_of side those finding = same_side side finding.side && those finding.rule

-- none does
abbrev pub BreaksNone : Side → (Rule → Bool) → List Finding → Type 0
BreaksNone side those [] = ⊤
BreaksNone side those (finding ∷ findings) = (tells_of side those finding ≡ false) × BreaksNone side those findings

-- A note is no accusation: what it tells of is allowed, or nobody can know who is wrong.
abbrev pub is_note : Level → Bool
is_note Must = false
is_note Should = false
is_note Note = true

abbrev pub accuses : Side → (Rule → Bool) → Finding → Bool
accuses side those finding = tells_of side those finding && not (is_note finding.level)

abbrev pub AccusesNone : Side → (Rule → Bool) → List Finding → Type 0
AccusesNone side those [] = ⊤
AccusesNone side those (finding ∷ findings) = (accuses side those finding ≡ false) × AccusesNone side those findings

-- ---- the rules that are a connection's (docs/judge.md, "The rules")

-- those of heads, contents and entries by themselves
abbrev pub is_of_messages : Rule → Bool
is_of_messages rules.Head = true
is_of_messages rules.NotJson = true
is_of_messages rules.Charset = true
is_of_messages rules.Object = true
is_of_messages rules.Version = true
is_of_messages rules.Method = true
is_of_messages rules.Params = true
is_of_messages rules.Id = true
is_of_messages rules.Outcome = true
is_of_messages rules.Error = true
is_of_messages rules.BothKinds = true
is_of_messages rules.Twice = true
is_of_messages rules.EmptyArray = true
is_of_messages _ = false

-- those of the ids of requests, as they are written
abbrev pub is_of_ids : Rule → Bool
is_of_ids rules.IdFraction = true
is_of_ids rules.IdNull = true
is_of_ids rules.IdForm = true
is_of_ids _ = false

-- an id is used again
abbrev pub is_of_use : Rule → Bool
is_of_use rules.IdAgain = true
is_of_use _ = false

-- those of answers, by what is owed
abbrev pub is_of_answers : Rule → Bool
is_of_answers rules.NotOwed = true
is_of_answers rules.NotAsArray = true
is_of_answers _ = false
