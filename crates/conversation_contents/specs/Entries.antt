-- The entries of a content, of which some may have gone.
use Rattle.std.specs.Prelude.{◌≡◌, ℕ, ◌+◌, ◌<◌, ◌||◌, List, length, slice_get, Option, Some, None, option_map}
use Rattle.std.specs.List.{filter_map, list_any}
use Rattle.conversation_ids.specs.OwedMarks.{entry_has, is_mark, marks_have, request_has}
use Rattle.conversation_ids.specs.declared.entry_marks.EntryMarks.{EntryMarks}
use Rattle.conversation_contents.specs.Left.{IsFindable, IsLeftOf, left_entries, places_of}
use Rattle.conversation_contents.specs.declared.content_entries.Entries.{Entries}
use Rattle.conversation_contents.specs.declared.taken.Taken.{Taken}
use Rattle.conversation_contents.specs.declared.what_is_left.Left.{Left}
use Rattle.conversation_rules.specs.Owed.{Owed}
use Rattle.number_windows.specs.Numbered.{Below}

-- all of them, or where an index has it those that are left
abbrev pub entries_among : List Owed → Option Left → List Owed
entries_among slots None = slots
entries_among slots (Some left) = filter_map (slice_get slots) (places_of left)

-- The index has those that are left, and none of them has a number that is greater than how many there were.
pub record IsIndexOf (slots : List Owed) (left : Left) : Type 0 where
  pub findable : IsFindable (slice_get slots) left
  pub below : Below (length slots + 1) (left_entries left)
  pub places : IsLeftOf (slice_get slots) (places_of left) (entries_among slots (Some left))

abbrev pub AreAmong : List Owed → Option Left → Type 0
AreAmong slots None = Unit {0}
AreAmong slots (Some left) = IsIndexOf slots left

abbrev pub index_of_entries : Entries → Option Left
index_of_entries entries = option_map (λ boxed. boxed.value) entries.left

abbrev pub entries_of : Entries → List Owed
entries_of entries = entries_among entries.slots.items (index_of_entries entries)

abbrev pub AreEntries : Entries → Type 0
AreEntries entries = AreAmong entries.slots.items (index_of_entries entries)

-- ---- what goes

-- what is told of an entry, and the marks by which it was found
pub record IsTold (owed : Owed) (taken : Taken) : Type 0 where
  pub is_request : taken.is_request ≡ owed.is_request
  pub is_cancelled : taken.is_cancelled ≡ owed.is_cancelled
  pub entry : (mark : ℕ) → marks_have taken.marks mark ≡ entry_has mark owed
  pub request : (mark : ℕ) → is_mark taken.marks.request mark ≡ request_has mark owed

abbrev pub IsToldOf : Option Owed → Option Taken → Type 0
IsToldOf None None = Unit {0}
IsToldOf None (Some taken) = ⊥
IsToldOf (Some owed) None = ⊥
IsToldOf (Some owed) (Some taken) = IsTold owed taken

-- one entry with these marks has gone
pub record HaveLost (marks : EntryMarks) (was now : List Owed) : Type 0 where
  pub less : length now < length was
  pub entry : (mark : ℕ) → list_any (entry_has mark) was ≡ (marks_have marks mark || list_any (entry_has mark) now)
  pub request : (mark : ℕ) → list_any (request_has mark) was ≡ (is_mark marks.request mark || list_any (request_has mark) now)
