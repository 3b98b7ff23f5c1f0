-- Which entries of a batch the answers in an array take, and what they leave.
use Rattle.std.specs.Prelude.{◌≡◌, ℕ, ◌&&◌, Bool, true, false, List, [], ◌∷◌, filter, position, remove, Option, Some, None, option_and_then, is_some, not}
use Rattle.std.specs.List.{filter_map}
use Rattle.conversation_reading.specs.declared.entry.WrittenId.{WrittenId}
use Rattle.conversation_rules.specs.Amounts.{is_null}
use Rattle.conversation_rules.specs.Dues.{ids_read}
use Rattle.conversation_rules.specs.Matching.{taken_by}
use Rattle.conversation_rules.specs.Owed.{Owed, is_expected}
use Rattle.conversation_dues.specs.declared.arrays.Which.{Which}
use Rattle.conversation_dues.specs.declared.arrays.Which.TheVariants.{Expected, Named, Nulls}
use Rattle.conversation_contents.specs.Left.{IsLeftOf}

abbrev pub is_of : Which → WrittenId → Bool
is_of Expected id = true
is_of Named id = not (is_null id)
is_of Nulls id = is_null id

abbrev pub ids_of : Which → List (Option WrittenId) → List WrittenId
ids_of which ids = filter (is_of which) (ids_read ids)

-- the entry that an answer with this id takes
abbrev pub choice : Which → WrittenId → List Owed → Option ℕ
choice Expected id left = position (is_expected id) left
choice Named id left = taken_by id left
choice Nulls id left = taken_by id left

-- what is left once each of these ids has its own entry
abbrev pub all_taken : (WrittenId → List Owed → Option ℕ) → List WrittenId → List Owed → Option (List Owed)
all_taken choose [] left = Some left
all_taken choose (id ∷ ids) left = option_and_then (λ place. all_taken choose ids (remove left place)) (choose id left)

-- each of these ids is the one that the entry at its place expects
abbrev pub expects : Option WrittenId → Owed → Bool
expects None owed = false
expects (Some id) owed = is_expected id owed

abbrev pub are_in_line : List Owed → List (Option WrittenId) → Bool
are_in_line [] [] = true
are_in_line [] (id ∷ ids) = false
are_in_line (owed ∷ entries) [] = false
are_in_line (owed ∷ entries) (id ∷ ids) = expects id owed && are_in_line entries ids

-- whether they all have, and the places that are left then
abbrev pub IsTaken : (ℕ → Option Owed) → List ℕ → Bool → Option (List Owed) → Type 0
IsTaken at places all None = all ≡ false
IsTaken at places all (Some now) = (all ≡ true) × IsLeftOf at places now

abbrev pub expects_any : Owed → Bool
expects_any owed = is_some owed.expected

-- what is left behind a place that is taken, if any
abbrev pub left_after : {X : Type 0} → Option ℕ → List X → List X
left_after None left = left
left_after (Some place) left = remove left place

-- what is left once answers with these ids have taken theirs, where there are some
abbrev pub left_of : List WrittenId → List Owed → List Owed
left_of [] entries = entries
left_of (id ∷ ids) entries = left_of ids (left_after (taken_by id entries) entries)

-- the ids that are expected
abbrev pub expected_of : List Owed → List WrittenId
expected_of left = filter_map (λ owed. owed.expected) left
