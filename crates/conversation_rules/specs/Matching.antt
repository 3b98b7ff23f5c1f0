-- Which of what is owed an answer is for. What is owed is listed by contents, the oldest first.
use Rattle.std.specs.Prelude.{◌≡◌, ℕ, suc, ◌&&◌, ◌||◌, not, nat_le, List, [], ◌∷◌, ◌++◌, filter, count_by, position, remove, Bool, true, false, Option, Some, None, option_map, option_and_then, IsSomeAnd, slice_get, if◌then◌else◌}
use Rattle.std.specs.List.{list_any, filter_map}
use Rattle.std.specs.Option.{option_map_or}
use Rattle.conversation_reading.specs.declared.entry.WrittenId.{WrittenId}
use Rattle.conversation_rules.specs.Amounts.{same_id, is_null}
use Rattle.conversation_rules.specs.Owed.{Owed, Due, is_expected, may_have}
use Rattle.conversation_rules.specs.declared.found.Target.{Target}
use Rattle.conversation_rules.specs.declared.found.Target.TheVariants.{EntryOf, WholeOf}

-- ---- the oldest that fits

abbrev pub place_in : Bool → (Owed → Bool) → Due → Option ℕ
place_in batches fits due = if (if batches then due.is_batch else not due.is_batch) then position fits due.entries else None

abbrev pub later : Target → Target
later (EntryOf content place) = EntryOf (suc content) place
later (WholeOf content) = WholeOf (suc content)

-- in single contents, or in batches
abbrev pub oldest : Bool → (Owed → Bool) → List Due → Option Target
oldest batches fits [] = None
oldest batches fits (due ∷ dues) = option_map_or (λ place. Some (EntryOf 0 place)) (place_in batches fits due) (option_map later (oldest batches fits dues))

abbrev pub or_else : Option Target → Option Target → Option Target
or_else (Some target) other = Some target
or_else None other = other

-- ---- a single answer with an id that isn't null

-- it must be answered, and with this id
abbrev pub is_due_for : WrittenId → Owed → Bool
is_due_for id owed = owed.must && is_expected id owed

abbrev pub is_request_for : WrittenId → Owed → Bool
is_request_for id owed = owed.is_request && is_expected id owed

-- of what may be left: a request that is expected to have this id, then any entry that is, and then one that may have it
abbrev pub left_named_in : Bool → WrittenId → List Due → Option Target
left_named_in batches id dues = or_else (oldest batches (is_request_for id) dues) (or_else (oldest batches (is_expected id) dues) (oldest batches (may_have id) dues))

-- What must be answered comes before a request of the same id whose cancel says that it may be left.
abbrev pub named_in : Bool → WrittenId → List Due → Option Target
named_in batches id dues = or_else (oldest batches (is_due_for id) dues) (left_named_in batches id dues)

-- and only then with what stands in batches
abbrev pub named_target : WrittenId → List Due → Option Target
named_target id dues = or_else (named_in false id dues) (named_in true id dues)

-- ---- a single answer with the id null, by its code

abbrev pub expects_null : Owed → Bool
expects_null owed = option_map_or is_null owed.expected false

abbrev pub is_null_request : Owed → Bool
is_null_request owed = owed.is_request && expects_null owed

abbrev pub is_null_other : Owed → Bool
is_null_other owed = not owed.is_request && expects_null owed

-- such an entry that has no id, or null
abbrev pub is_unnamed : Owed → Bool
is_unnamed owed = is_null_other owed && option_map_or is_null owed.own true

-- -32600 says that an entry is invalid; all else is rather an answer to a request
abbrev pub expects_null_in : Bool → Bool → List Due → Option Target
expects_null_in true batches dues = or_else (oldest batches is_null_other dues) (oldest batches is_null_request dues)
expects_null_in false batches dues = or_else (oldest batches is_null_request dues) (oldest batches is_null_other dues)

abbrev pub null_in : Bool → Bool → List Due → Option Target
null_in says_invalid batches dues = or_else (expects_null_in says_invalid batches dues) (oldest batches (λ owed. owed.may_be_null) dues)

-- Where it may be for a content that is refused whole, or that couldn't be read, it takes only what stands alone and expects it.
abbrev pub null_target : Bool → Bool → List Due → Option Target
null_target says_invalid is_unsure dues = if is_unsure then expects_null_in says_invalid false dues else or_else (null_in says_invalid false dues) (null_in says_invalid true dues)

-- -32700: an unreadable content, else a request with the id null, else what is invalid and has no id but null, and needn't be
-- answered; all these alone. What is invalid and has an id was read: it is taken only where no content may be refused whole. And
-- where what a reader may limit is open (RFC 8259, section 9), -32700 is for that rather than for what may be left.
abbrev pub parse_error_target : Bool → List Due → Option Target
parse_error_target is_unsure dues =
    or_else (option_map WholeOf (position (λ due. due.is_unreadable) dues))
    (or_else (oldest false is_null_request dues)
    (if is_unsure && list_any (λ due. due.has_huge) dues then None
    else or_else (oldest false is_unnamed dues) (if is_unsure then None else oldest false is_null_other dues)))

-- ---- the answers in an array

abbrev pub without_id : WrittenId → List WrittenId → Option (List WrittenId)
without_id id [] = None
without_id id (other ∷ ids) = if same_id id other then Some ids else option_map (λ rest. other ∷ rest) (without_id id ids)

-- the same ids, each as often, in any order
abbrev pub same_ids : List WrittenId → List WrittenId → Bool
same_ids [] [] = true
same_ids [] (id ∷ ids) = false
same_ids (id ∷ ids) others = option_map_or (same_ids ids) (without_id id others) false

abbrev pub expected_ids : Due → List WrittenId
expected_ids due = filter_map (λ owed. owed.expected) due.entries

abbrev pub is_just : List WrittenId → Due → Bool
is_just ids due = due.is_batch && same_ids ids (expected_ids due)

-- and an entry of it must be answered
abbrev pub is_just_due : List WrittenId → Due → Bool
is_just_due ids due = list_any (λ owed. owed.must) due.entries && is_just ids due

-- It has to be guessed for which batch an array with these ids is: just these are expected from none that is open.
abbrev pub is_guess : List WrittenId → List Due → Bool
is_guess [] dues = false
is_guess (id ∷ ids) dues = list_any (λ due. due.is_batch) dues && not (list_any (is_just (id ∷ ids)) dues)

-- the entry that an answer with this id takes of a batch: a request that must be answered, then one that expects it, then one
-- that may have it
abbrev pub taken_by : WrittenId → List Owed → Option ℕ
taken_by id entries = option_map_or Some (position (is_due_for id) entries) (option_map_or Some (position (is_expected id) entries) (position (may_have id) entries))

-- what is left once each of these has its own entry
abbrev pub left_by : List WrittenId → List Owed → Option (List Owed)
left_by [] entries = Some entries
left_by (id ∷ ids) entries = option_and_then (λ place. left_by ids (remove entries place)) (taken_by id entries)

-- the others take theirs before those that are null, which fit more
abbrev pub nulls_last : List WrittenId → List WrittenId
nulls_last ids = filter (λ id. not (is_null id)) ids ++ filter is_null ids

-- No request is left that must be answered, but for as many as there are answers whose id can't be read.
abbrev pub leaves_no_request : ℕ → List Owed → Bool
leaves_no_request unnamed entries = nat_le (count_by (λ owed. owed.must) entries) unnamed

abbrev pub can_be_answered : List WrittenId → ℕ → Due → Bool
can_be_answered ids unnamed due = due.is_batch && option_map_or (leaves_no_request unnamed) (left_by (nulls_last ids) due.entries) false

-- one from which just these ids are expected, else one whose answer these and so many that can't be read can be
abbrev pub left_batch_target : List WrittenId → ℕ → List Due → Option ℕ
left_batch_target ids unnamed dues = option_map_or Some (position (is_just ids) dues) (position (can_be_answered ids unnamed) dues)

-- The batch that the answers in an array are for, by their ids that can be read, and by how many can't. Where just these are
-- expected, a batch whose answer must come is first.
abbrev pub batch_target : List WrittenId → ℕ → List Due → Option ℕ
batch_target [] unnamed dues = None
batch_target (id ∷ ids) unnamed dues = option_map_or Some (position (is_just_due (id ∷ ids)) dues) (left_batch_target (id ∷ ids) unnamed dues)

-- ---- what a target says

-- it is an entry that is owed something, and that fits
abbrev pub IsFor : (Owed → Bool) → List Due → Target → Type 0
IsFor fits dues (EntryOf content place) = IsSomeAnd (slice_get dues content) (λ due. IsSomeAnd (slice_get due.entries place) (λ owed. fits owed ≡ true))
IsFor fits dues (WholeOf content) = ⊥

-- it may have this id
abbrev pub takes : WrittenId → Owed → Bool
takes id owed = is_expected id owed || may_have id owed
