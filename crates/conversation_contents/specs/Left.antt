-- What is left of a list of entries, once some have gone, by the places of those that are left; and an index of these.
use Rattle.std.specs.Prelude.{◌≡◌, ℕ, zero, suc, ◌+◌, ◌%◌, ◌^◌, ◌==◌, ◌&&◌, ◌||◌, Bool, true, false, List, [], ◌∷◌, map, filter, nat_lt, Option, Some, None, option_map, if◌then◌else◌}
use Rattle.std.specs.Option.{option_map_or}
use Rattle.conversation_ids.specs.Marks.{mark_of, null_mark}
use Rattle.conversation_ids.specs.OwedMarks.{has_mark, request_has}
use Rattle.conversation_ids.specs.Ways.{fits}
use Rattle.conversation_contents.specs.Numbers.{has_number}
use Rattle.conversation_contents.specs.declared.look.Look.{Look}
use Rattle.conversation_contents.specs.declared.look.Look.TheVariants.{Fits, Cancelled, Expects, Allows, Uncancelled}
use Rattle.conversation_contents.specs.declared.numbers_by_mark.NumbersByMark.{NumbersByMark}
use Rattle.conversation_contents.specs.declared.what_is_left.Left.{Left}
use Rattle.conversation_contents.specs.declared.look.Taking.{Taking}
use Rattle.conversation_contents.specs.declared.look.Taking.TheVariants as ways
use Rattle.conversation_reading.specs.declared.entry.WrittenId.{WrittenId}
use Rattle.conversation_rules.specs.Matching.{is_request_for}
use Rattle.conversation_rules.specs.Owed.{Owed}
use Rattle.number_windows.specs.Numbered.{at, Above}
use Rattle.number_windows.specs.Windows.{window_entries, IsWindow}

abbrev pub values_of : {X : Type 0} → List (ℕ × X) → List X
values_of entries = map (λ entry. entry.1) entries

-- those behind a number
abbrev pub behind : {X : Type 0} → ℕ → List (ℕ × X) → List (ℕ × X)
behind number entries = filter (λ entry. nat_lt number entry.0) entries

-- the how-manieth has this number
abbrev pub index_of : {X : Type 0} → ℕ → List (ℕ × X) → ℕ
index_of number [] = zero
index_of number (entry ∷ entries) = if number == entry.0 then zero else suc (index_of number entries)

-- ---- what is looked for

-- the answer may have an id of this mark, whatever is expected
abbrev pub allows : ℕ → Owed → Bool
allows mark owed = has_mark mark owed.first || (has_mark mark owed.own || (owed.may_be_null && null_mark == mark))

abbrev pub holds : Look → WrittenId → Owed → Bool
holds (Fits way) id = fits way id
holds Cancelled id = λ owed. is_request_for id owed && owed.is_cancelled
holds (Expects mark) id = λ owed. has_mark mark owed.expected
holds (Allows mark) id = allows mark
holds (Uncancelled mark) id = request_has mark

-- ---- by which keys an entry stands in the index

abbrev pub key_of : Taking → ℕ → ℕ
key_of ways.Must mark = (mark + 2 ^ 67) % 2 ^ 128
key_of ways.Expected mark = (mark + 2 ^ 66) % 2 ^ 128
key_of ways.Allowed mark = mark

-- the key of a mark is this one
abbrev pub is_key : Taking → ℕ → Option ℕ → Bool
is_key taking key mark = option_map_or (λ mark. key_of taking mark == key) mark false

-- that of the id that is expected, where the entry must be answered
abbrev pub must_mark : Owed → Option ℕ
must_mark owed = if owed.must then option_map mark_of owed.expected else None

-- that of null, where the answer may have it
abbrev pub allowed_null : Owed → Option ℕ
allowed_null owed = if owed.may_be_null then Some null_mark else None

abbrev pub has_key : ℕ → Owed → Bool
has_key key owed =
    is_key ways.Must key (must_mark owed) || (is_key ways.Expected key (option_map mark_of owed.expected)
    || (is_key ways.Allowed key (option_map mark_of owed.first) || (is_key ways.Allowed key (option_map mark_of owed.own) || is_key ways.Allowed key (allowed_null owed))))

-- ---- the places that are left, by their numbers

abbrev pub left_entries : Left → List (ℕ × ℕ)
left_entries left = window_entries left.places

abbrev pub places_of : Left → List ℕ
places_of left = values_of (left_entries left)

-- the how-manieth of them has this number
abbrev pub index_in : Left → Option ℕ → Option ℕ
index_in left number = option_map (λ n. index_of n (left_entries left)) number

abbrev pub at_test : {X : Type 0} → (X → Bool) → (ℕ → Option X) → ℕ → Bool
at_test p at place = option_map_or p (at place) false

-- each of them stands in the index under its keys
abbrev pub IsNoted : (ℕ → Option Owed) → NumbersByMark → List (ℕ × ℕ) → Type 0
IsNoted entry index places = (number place : ℕ) → at number places ≡ Some place → (key : ℕ) → at_test (has_key key) entry place ≡ true → has_number index key number ≡ true

pub record IsFindable (entry : ℕ → Option Owed) (left : Left) : Type 0 where
  pub window : IsWindow left.places
  pub above : Above 0 (left_entries left)
  pub noted : IsNoted entry left.marks (left_entries left)

-- these stand at the places that are left
abbrev pub IsLeftOf : {X : Type 0} → (ℕ → Option X) → List ℕ → List X → Type 0
IsLeftOf at places left = map at places ≡ map Some left
