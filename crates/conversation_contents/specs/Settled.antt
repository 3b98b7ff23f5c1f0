-- What changes of a content by an entry, and what is told of one that is taken off.
use Rattle.std.specs.Prelude.{ℕ, ◌≡◌, ◌==◌, ◌++◌, length, remove, slice_get, [], ◌∷◌, Bool, Option, Some, None}
use Rattle.std.specs.List.{position_or_len}
use Rattle.std.specs.Option.{option_map_or}
use Rattle.conversation_contents.specs.declared.taken.Settled.{Settled}
use Rattle.conversation_ids.specs.OwedMarks.{entry_has, is_mark, marks_have, request_has}
use Rattle.conversation_rules.specs.Dues.{fit_of}
use Rattle.conversation_rules.specs.Owed.{Owed, Due}

-- one more entry is owed on a content
abbrev pub and_owed : Owed → Due → Due
and_owed owed due = record due { entries = due.entries ++ owed ∷ [] }

-- one less
abbrev pub and_removed : ℕ → Due → Due
and_removed place due = record due { entries = remove due.entries place }

abbrev pub is_empty : Due → Bool
is_empty due = length due.entries == 0

-- the place of the first entry of a content that passes a test, or behind all of them
abbrev pub place_at : (Owed → Bool) → Option Due → ℕ
place_at passes due = option_map_or (λ due. position_or_len passes due.entries) due 0

abbrev pub owed_at : ℕ → Due → Option Owed
owed_at place due = slice_get due.entries place

-- what is told of an entry that is taken off
pub record IsSettled (due : Due) (place : ℕ) (settled : Settled) : Type 0 where
  pub owed : Owed
  pub there : owed_at place due ≡ Some owed
  pub fit : settled.fit ≡ fit_of due owed
  pub entry : (mark : ℕ) → marks_have settled.marks mark ≡ entry_has mark owed
  pub request : (mark : ℕ) → is_mark settled.marks.request mark ≡ request_has mark owed
  pub last : settled.is_last ≡ is_empty (and_removed place due)

-- of a content, or of none
abbrev pub IsSettledAt : Option Due → ℕ → Option Settled → Type 0
IsSettledAt None place None = Unit {0}
IsSettledAt None place (Some settled) = ⊥
IsSettledAt (Some due) place None = owed_at place due ≡ None
IsSettledAt (Some due) place (Some settled) = IsSettled due place settled
