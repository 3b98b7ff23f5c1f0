-- An answer that is expected, as the judge matches answers.
use Rattle.std.specs.Prelude.{◌≡◌, ◌&&◌, not, List, [], ◌∷◌, Bool, false, ⊤}
use Rattle.std.specs.List.{list_any}
use Rattle.conversation_reading.specs.declared.entry.WrittenId.{WrittenId}
use Rattle.conversation_rules.specs.Matching.{is_just}
use Rattle.conversation_rules.specs.Owed.{Owed, Due}
use Rattle.conversation_rules.specs.declared.finding.Finding.{Finding}
use Rattle.conversation_rules.specs.declared.finding.Rule.{Rule}

-- no finding is of these rules
abbrev pub NoneOf : (Rule → Bool) → List Finding → Type 0
NoneOf those [] = ⊤
NoneOf those (finding ∷ findings) = (those finding.rule ≡ false) × NoneOf those findings

-- on a content that is no batch something is owed that fits
abbrev pub is_owed_singly : (Owed → Bool) → List Due → Bool
is_owed_singly fits owed = list_any (λ due. not due.is_batch && list_any fits due.entries) owed

-- a content can't be read
abbrev pub any_unreadable : List Due → Bool
any_unreadable owed = list_any (λ due. due.is_unreadable) owed

-- from a batch just these ids are expected
abbrev pub is_owed_in_a_batch : List WrittenId → List Due → Bool
is_owed_in_a_batch ids owed = list_any (is_just ids) owed
