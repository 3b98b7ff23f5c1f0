-- What a desk keeps, and what each call makes of it.
use Rattle.std.specs.Prelude.{◌≡◌, ◌<◌, MatchOption, ℕ, ◌-◌, ◌++◌, ◌&&◌, ◌||◌, not, List, [], ◌∷◌, Option, Some, None, Bool, true, false, if◌then◌else◌, is_some, length, map, take, drop, slice_set, slice_index_or}
use Rattle.std.specs.Option.{option_map, option_and_then}
use Rattle.std.specs.List.{filter_map}
use Rattle.message_ids.specs.declared.id.Id.{Id}
use Rattle.rpc_messages.specs.declared.reply.Reply.{Reply}
use Rattle.open_numbers.specs.declared.open_call.OpenCall.{OpenCall}
use Rattle.open_numbers.specs.declared.replies.Put.{Put}
use Rattle.open_numbers.specs.declared.replies.Put.TheVariants.{Unknown}
use Rattle.answer_desk.specs.declared.shape.Shape.{Shape}
use Rattle.open_numbers.specs.declared.replies.Slot.{Slot}
use Rattle.open_numbers.specs.declared.replies.Slot.TheVariants.{Held, Given}
use Rattle.message_ids.specs.Ids.{has_id}
use Rattle.open_numbers.specs.OpenCalls.{new_number}
use Rattle.open_numbers.specs.OpenCalls.{marked, is_in_reach, number_marked}
use Rattle.answer_desk.specs.Places.{new_numbers, new_parts}
use Rattle.open_numbers.specs.Replies.{slot_at, put_into, is_kept, given_by}
use Rattle.answer_desk.specs.Waiting.{Waiting, unit_text, whole_front, behind_front, unit_answered}

-- Each number from 0 on that was given, with what is kept of it while it is open; whether the board is closed; the units
-- that aren't released, in order of arrival. The next number is the length of the list.
pub record State : Type 0 where
  pub numbers : List (Option OpenCall)
  pub is_closed : Bool
  pub units : List Waiting

-- a new desk: the number 0 isn't open
abbrev pub new_state : State
new_state = record { numbers = None ∷ []; is_closed = false; units = [] }

-- a desk whose number 0 is open, as a call without an id: it has room for its replies, and belongs to no unit
abbrev pub opening_state : ℕ → State
opening_state most = record { numbers = Some (new_number None most) ∷ []; is_closed = false; units = [] }

abbrev pub next_number : State → ℕ
next_number s = length s.numbers

-- what is kept of a number; nothing where it isn't open
abbrev pub number_at : State → ℕ → Option OpenCall
number_at s number = slice_index_or s.numbers number None

abbrev pub is_open : State → ℕ → Bool
is_open s number = is_some (number_at s number)

-- a change of one number
abbrev pub numbers_with : List (Option OpenCall) → ℕ → (OpenCall → OpenCall) → List (Option OpenCall)
numbers_with numbers number change = slice_set numbers number (option_map change (slice_index_or numbers number None))

-- once a unit of this shape was opened
abbrev pub with_unit : State → Shape → State
with_unit s shape = record {
  numbers = s.numbers ++ new_numbers shape.places;
  is_closed = s.is_closed;
  units = s.units ++ record { kind = shape.kind; parts = new_parts (next_number s) shape.places } ∷ [];
}

-- the slot of an open number's turn
abbrev pub slot_of : State → ℕ → ℕ → Option Slot
slot_of s number turn = option_and_then (λ (n : OpenCall). slot_at n.replies turn) (number_at s number)

abbrev pub with_slot : State → ℕ → ℕ → Slot → State
with_slot s number turn slot = record s {
  numbers = numbers_with s.numbers number (λ (n : OpenCall). record n { replies = slice_set n.replies (turn - 1) slot });
}

-- what `put_reply` answers, and what it leaves
abbrev pub put_of : State → ℕ → ℕ → Put
put_of s number turn = if s.is_closed then Unknown else put_into (slot_of s number turn)

abbrev pub with_reply : State → ℕ → ℕ → Reply → State
with_reply s number turn reply = if is_kept (put_of s number turn) then with_slot s number turn (Held reply) else s

-- what `take_reply` gives, and what it leaves
abbrev pub reply_of : State → ℕ → ℕ → Option Reply
reply_of s number turn = given_by s.is_closed (slot_of s number turn)

abbrev pub without_reply : State → ℕ → ℕ → State
without_reply s number turn = if is_some (reply_of s number turn) then with_slot s number turn Given else s

abbrev pub NoneInReachBelow : State → Id → ℕ → Type 0
NoneInReachBelow s id bound = (k : ℕ) → k < bound → is_in_reach id (number_at s k) ≡ false

-- what `reach` gives: the lowest number below the cancel's own that the cancel would mark; and what it leaves
abbrev pub IsLowestInReach : State → Id → ℕ → Option ℕ → Type 0
IsLowestInReach s id before result =
    MatchOption result (NoneInReachBelow s id before)
    (λ number. (number < before) × (is_in_reach id (number_at s number) ≡ true) × NoneInReachBelow s id number)

abbrev pub with_reached : State → Option ℕ → State
with_reached s None = s
with_reached s (Some number) = record s { numbers = numbers_with s.numbers number marked }

-- once a cancel of this id, whose own number is `before`, has marked all that it reaches
abbrev pub with_marks : State → Id → ℕ → State
with_marks s id before = record s {
  numbers = map (option_map (number_marked id)) (take before s.numbers) ++ drop before s.numbers;
}

abbrev pub with_board_closed : State → State
with_board_closed s = record s { is_closed = true }

-- once an open number was finished with this answer
abbrev pub with_end : State → ℕ → Reply → State
with_end s number reply = record {
  numbers = slice_set s.numbers number None;
  is_closed = s.is_closed;
  units = map (unit_answered number reply) s.units;
}

-- what `release` gives: the texts of the longest front of whole units; and what it leaves
abbrev pub front_texts : State → List (List ℕ)
front_texts s = filter_map unit_text (whole_front s.units)

abbrev pub without_front : State → State
without_front s = record s { units = behind_front s.units }
