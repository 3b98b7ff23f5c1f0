-- Contents on which something is owed, by numbers that ascend, and their index.
use Rattle.std.specs.Prelude.{ℕ, suc, ◌≡◌, ◌<◌, ◌&&◌, ◌||◌, not, nat_le, List, [], ◌∷◌, map, Bool, true, false, Option, Some, None, if◌then◌else◌}
use Rattle.std.specs.List.{list_all, list_any}
use Rattle.std.specs.Option.{option_map_or}
use Rattle.conversation_contents.specs.Left.{values_of}
use Rattle.conversation_contents.specs.Numbers.{has_number}
use Rattle.conversation_contents.specs.Settled.{and_removed, is_empty}
use Rattle.conversation_contents.specs.declared.numbers_by_mark.NumbersByMark.{NumbersByMark}
use Rattle.conversation_ids.specs.OwedMarks.{due_has, has_mark, uncancelled_has}
use Rattle.conversation_open.specs.declared.among.Among.{Among}
use Rattle.conversation_open.specs.declared.among.Among.TheVariants.{Singles, Batches, All}
use Rattle.conversation_open.specs.declared.index.Index.{Index}
use Rattle.conversation_open.specs.declared.marked_contents.MarkedContents.{MarkedContents}
use Rattle.conversation_open.specs.declared.open_contents.OpenContents.{OpenContents}
use Rattle.conversation_rules.specs.Dues.{is_open, unanswered_of}
use Rattle.conversation_rules.specs.Owed.{Owed, Due}
use Rattle.conversation_rules.specs.declared.found.Unanswered.{Unanswered}
use Rattle.number_windows.specs.Numbered.{at, without, changed_at, Above, Below}
use Rattle.number_windows.specs.Windows.{window_entries, IsWindow}

abbrev pub open_entries : OpenContents → List (ℕ × Due)
open_entries contents = window_entries contents.dues

-- the contents, the oldest first
abbrev pub contents_of : List (ℕ × Due) → List Due
contents_of entries = values_of entries

-- it is one of these, and has the mark
abbrev pub among_has : Among → ℕ → Due → Bool
among_has Singles mark due = not due.is_batch && due_has mark due
among_has Batches mark due = due.is_batch && due_has mark due
among_has All mark due = due_has mark due

-- it is one of these
abbrev pub is_among : Among → Due → Bool
is_among Singles due = not due.is_batch
is_among Batches due = due.is_batch
is_among All due = true

-- it must be answered, and its answer is expected to have an id of this mark
abbrev pub is_due_by : ℕ → Owed → Bool
is_due_by mark owed = owed.must && has_mark mark owed.expected

-- it is one of these, and such an entry is open on it
abbrev pub among_is_due : Among → ℕ → Due → Bool
among_is_due among mark due = is_among among due && list_any (is_due_by mark) due.entries

-- where it must be answered it is a request that no cancel has reached
abbrev pub is_uncancelled_if_due : Owed → Bool
is_uncancelled_if_due owed = not owed.must || (owed.is_request && not owed.is_cancelled)

-- all that must be answered of these contents
abbrev pub AreUncancelled : List (ℕ × Due) → Type 0
AreUncancelled entries = (n : ℕ) (due : Due) → at n entries ≡ Some due → list_all is_uncancelled_if_due due.entries ≡ true

-- under each mark just the contents stand that have it
abbrev pub StandAs : (ℕ → Due → Bool) → NumbersByMark → List (ℕ × Due) → Type 0
StandAs has marks entries = (mark number : ℕ) → has_number marks mark number ≡ option_map_or (has mark) (at number entries) false

-- the contents of one kind
pub record AreMarked (is_one : Due → Bool) (contents : MarkedContents) (entries : List (ℕ × Due)) : Type 0 where
  pub all : StandAs (λ mark due. is_one due && due_has mark due) contents.all entries
  pub uncancelled : StandAs (λ mark due. is_one due && uncancelled_has mark due) contents.uncancelled entries

-- the index has each content under its marks, and nothing else
pub record IsIndexed (index : Index) (entries : List (ℕ × Due)) : Type 0 where
  pub singles : AreMarked (λ due. not due.is_batch) index.singles entries
  pub batches : AreMarked (λ due. due.is_batch) index.batches entries

-- Numbers begin with 1 and ascend, and none is above the last that was given. Where the flag says so, no cancel has
-- reached what must be answered.
pub record IsOpen (contents : OpenContents) : Type 0 where
  pub window : IsWindow contents.dues
  pub above : Above 0 (open_entries contents)
  pub below : Below (suc contents.last) (open_entries contents)
  pub indexed : IsIndexed contents.index (open_entries contents)
  pub uncancelled : contents.due_are_uncancelled ≡ true → AreUncancelled (open_entries contents)

-- no such content stands behind a number, up to another one
abbrev pub IsNoneBetween : (Due → Bool) → ℕ → ℕ → List (ℕ × Due) → Type 0
IsNoneBetween is_one after number entries = (n : ℕ) (due : Due) → after < n → n < number → at n entries ≡ Some due → is_one due ≡ false

abbrev pub IsNoneBehind : (Due → Bool) → ℕ → List (ℕ × Due) → Type 0
IsNoneBehind is_one after entries = (n : ℕ) (due : Due) → after < n → at n entries ≡ Some due → is_one due ≡ false

-- all of them stay what they are by a change
abbrev pub AreFixedBetween : (Due → Due) → ℕ → ℕ → List (ℕ × Due) → Type 0
AreFixedBetween change after number entries = (n : ℕ) (due : Due) → after < n → n < number → at n entries ≡ Some due → change due ≡ due

abbrev pub AreFixedBehind : (Due → Due) → ℕ → List (ℕ × Due) → Type 0
AreFixedBehind change after entries = (n : ℕ) (due : Due) → after < n → at n entries ≡ Some due → change due ≡ due

-- the number of the content that came last
abbrev pub last_number : List (ℕ × Due) → Option ℕ
last_number [] = None
last_number (entry ∷ []) = Some entry.0
last_number (entry ∷ next ∷ entries) = last_number (next ∷ entries)

abbrev pub is_open_at : ℕ → List (ℕ × Due) → Bool
is_open_at number entries = option_map_or is_open (at number entries) true

-- a content goes once the last of its entries does
abbrev pub settled_at : ℕ → ℕ → List (ℕ × Due) → List (ℕ × Due)
settled_at number place entries =
    if option_map_or is_empty (at number (changed_at number (and_removed place) entries)) false then without number entries
    else changed_at number (and_removed place) entries

-- those up to a number are changed
abbrev pub changed_up_to : ℕ → (Due → Due) → List (ℕ × Due) → List (ℕ × Due)
changed_up_to number change entries = map (λ entry. (entry.0, (if nat_le entry.0 number then change entry.1 else entry.1))) entries

-- what must be answered of a content, and isn't
abbrev pub unanswered_at : ℕ → List (ℕ × Due) → List Unanswered
unanswered_at number entries = option_map_or (λ due. unanswered_of due due.entries) (at number entries) []
