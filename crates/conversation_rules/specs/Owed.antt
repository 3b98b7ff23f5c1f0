-- What a side owes on what the other one wrote (JSON-RPC 2.0, sections 4 to 6).
use Rattle.std.specs.Prelude.{ℕ, suc, ◌&&◌, ◌||◌, not, List, [], ◌∷◌, Bool, true, false, Option, Some, None, option_and_then, is_some, if◌then◌else◌}
use Rattle.std.specs.Option.{option_map_or, option_to_list}
use Rattle.conversation_reading.specs.declared.entry.Entry.{Entry}
use Rattle.conversation_reading.specs.declared.entry.Faults.{Faults}
use Rattle.conversation_reading.specs.declared.entry.Kind.{Kind}
use Rattle.conversation_reading.specs.declared.entry.Kind.TheVariants.{Request, Notification, Answer, BrokenAnswer, Invalid}
use Rattle.conversation_reading.specs.declared.entry.WrittenId.{WrittenId}
use Rattle.conversation_reading.specs.declared.entry.WrittenId.TheVariants.{Null}
use Rattle.conversation_rules.specs.Amounts.{same_id, is_odd, is_null}
use Rattle.conversation_rules.specs.Protocols.{may_leave_null}
use Rattle.conversation_rules.specs.declared.protocol.Protocol.{Protocol}

-- What an entry may be answered by.
pub record Owed : Type 0 where
  -- the entry's place in its array, from 1, or 0
  pub place : ℕ
  -- a request has to be answered, and all else may be left
  pub must : Bool
  -- the id that its answer is expected to have
  pub expected : Option WrittenId
  -- the entry's own id, which its answer may have
  pub own : Option WrittenId
  -- and the one that stands first in it, where a member stands twice
  pub first : Option WrittenId
  -- whether its answer may have the id null
  pub may_be_null : Bool
  pub is_request : Bool
  pub is_cancelled : Bool

-- What is owed on a content.
pub record Due : Type 0 where
  -- the how-manieth content of its side it is, from 1, and the offset of its first byte
  pub number : ℕ
  pub offset : ℕ
  pub entries : List Owed
  pub is_batch : Bool
  pub is_unreadable : Bool
  -- whether it may be refused whole: a number in it is beyond a float's range, a member stands twice, or a request nests deep
  pub has_huge : Bool

abbrev pub has_id : WrittenId → Option WrittenId → Bool
has_id id other = option_map_or (same_id id) other false

abbrev pub is_expected : WrittenId → Owed → Bool
is_expected id owed = has_id id owed.expected

abbrev pub may_have : WrittenId → Owed → Bool
may_have id owed = has_id id owed.first || (has_id id owed.own || (owed.may_be_null && is_null id))

-- ---- entries

-- a request; one whose id is a number that isn't plain may be refused by null
abbrev pub request_owed : Protocol → ℕ → Option WrittenId → Owed
request_owed rules place id =
    if option_map_or is_odd id false then record { place = place; must = false; expected = Some Null; own = id; first = None; may_be_null = true; is_request = false; is_cancelled = false }
    else record { place = place; must = not (may_leave_null rules && option_map_or is_null id false); expected = id; own = id; first = None; may_be_null = false; is_request = true; is_cancelled = false }

-- what needn't be answered, and may be by null, or by its own id or the one that stands first
abbrev pub may_be_left : ℕ → Option WrittenId → Option WrittenId → Option WrittenId → Owed
may_be_left place expected own first = record { place = place; must = false; expected = expected; own = own; first = first; may_be_null = true; is_request = false; is_cancelled = false }

abbrev pub only_params : Faults → Bool
only_params f = f.params && not (f.object || f.version || f.method || f.id || f.outcome || f.error)

-- a call whose only fault is that its params are null
abbrev pub has_null_params : Entry → Bool
has_null_params entry = only_params entry.faults && entry.null_params

-- it is expected to be answered as it would be without them
abbrev pub expected_without_params : Option WrittenId → Option WrittenId
expected_without_params id = if option_map_or is_odd id false then Some Null else id

-- A member stands twice in it: its reader may have taken either one, or refused it (RFC 8259, section 4).
abbrev pub has_twice : Entry → Bool
has_twice entry = is_some entry.first

abbrev pub first_id : Entry → Option WrittenId
first_id entry = option_and_then (λ first. first.id) entry.first

abbrev pub invalid_owed : ℕ → Entry → Owed
invalid_owed place entry = may_be_left place (if has_null_params entry then expected_without_params entry.id else Some Null) entry.id (first_id entry)

-- a call in which a member stands twice is expected to be answered by the last one, and may be left or refused
abbrev pub owed_as : Protocol → ℕ → Entry → Kind → Option Owed
owed_as rules place entry Request = Some (if has_twice entry then may_be_left place (expected_without_params entry.id) entry.id (first_id entry) else request_owed rules place entry.id)
owed_as rules place entry Notification = if has_twice entry then Some (may_be_left place None None None) else None
owed_as rules place entry Answer = None
owed_as rules place entry BrokenAnswer = Some (may_be_left place None entry.id (first_id entry))
owed_as rules place entry Invalid = Some (invalid_owed place entry)

abbrev pub owed_on : Protocol → ℕ → Entry → Option Owed
owed_on rules place entry = owed_as rules place entry entry.kind

-- ---- contents

abbrev pub all_owed : Protocol → ℕ → List Entry → List Owed
all_owed rules place [] = []
all_owed rules place (entry ∷ entries) = option_map_or (λ owed. owed ∷ all_owed rules (suc place) entries) (owed_on rules place entry) (all_owed rules (suc place) entries)

-- a content on which nothing is owed yet
abbrev pub new_due : ℕ → ℕ → Bool → Bool → Due
new_due number offset batch huge = record { number = number; offset = offset; entries = []; is_batch = batch; is_unreadable = false; has_huge = huge }

-- one that can't be read
abbrev pub unreadable_due : ℕ → ℕ → Due
unreadable_due number offset = record { number = number; offset = offset; entries = []; is_batch = false; is_unreadable = true; has_huge = false }

abbrev pub single_due : ℕ → ℕ → Bool → Protocol → Entry → Due
single_due number offset huge rules entry = record (new_due number offset false huge) { entries = option_to_list (owed_on rules 0 entry) }

-- `[]` is one entry, which is invalid
abbrev pub empty_array_owed : Owed
empty_array_owed = may_be_left 0 (Some Null) None None

abbrev pub array_due : ℕ → ℕ → Bool → Protocol → List Entry → Due
array_due number offset huge rules [] = record (new_due number offset false huge) { entries = empty_array_owed ∷ [] }
array_due number offset huge rules (entry ∷ entries) = record (new_due number offset true huge) { entries = all_owed rules 1 (entry ∷ entries) }
