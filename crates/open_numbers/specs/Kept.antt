-- What stands for a number, and what each call makes of it.
use Rattle.std.specs.Prelude.{ℕ, Option, Some, None, Bool, if◌then◌else◌, is_some, List, ◌-◌, slice_set, slice_index_or}
use Rattle.std.specs.Global.{Box}
use Rattle.std.specs.Option.{option_and_then}
use Rattle.message_ids.specs.declared.id.Id.{Id}
use Rattle.rpc_messages.specs.declared.reply.Reply.{Reply}
use Rattle.open_numbers.specs.declared.kept.Kept.{Kept}
use Rattle.open_numbers.specs.declared.kept.Kept.TheVariants.{Open, Answered}
use Rattle.open_numbers.specs.declared.open_call.OpenCall.{OpenCall}
use Rattle.open_numbers.specs.declared.replies.Slot.{Slot}
use Rattle.open_numbers.specs.declared.replies.Slot.TheVariants.{Held, Given}
use Rattle.open_numbers.specs.Replies.{slot_at, put_into, is_kept, given_by}
use Rattle.open_numbers.specs.OpenCalls.{marked, number_marked, is_marked_number}

-- what is kept of a number that is open
abbrev pub open_number : Option Kept → Option OpenCall
open_number (Some (Open number)) = Some number
open_number (Some (Answered id reply)) = None
open_number None = None

-- what stands for a number; nothing where it is over
abbrev pub kept_at : List (Option Kept) → ℕ → Option Kept
kept_at numbers number = slice_index_or numbers number None

abbrev pub kept_in : Option (Box Kept) → Option Kept
kept_in None = None
kept_in (Some kept) = Some (kept.value)

abbrev pub kept_if : Bool → Kept → Option Kept
kept_if some kept = if some then Some kept else None

abbrev pub slot_in : Option Kept → ℕ → Option Slot
slot_in kept turn = option_and_then (λ (n : OpenCall). slot_at n.replies turn) (open_number kept)

-- the slots once a reply of this turn was put: the first is kept, any other changes nothing
abbrev pub slots_with : List Slot → ℕ → Reply → List Slot
slots_with slots turn reply = if is_kept (put_into (slot_at slots turn)) then slice_set slots (turn - 1) (Held reply) else slots

-- the slots once this turn's reply was taken
abbrev pub slots_without : Bool → List Slot → ℕ → List Slot
slots_without closed slots turn = if is_some (given_by closed (slot_at slots turn)) then slice_set slots (turn - 1) Given else slots

-- what stands there after each call
abbrev pub with_change : (OpenCall → OpenCall) → Option Kept → Option Kept
with_change change (Some (Open n)) = Some (Open (change n))
with_change change (Some (Answered id reply)) = Some (Answered id reply)
with_change change None = None

abbrev pub with_put : ℕ → Reply → Option Kept → Option Kept
with_put turn reply kept = with_change (λ (n : OpenCall). record n { replies = slots_with n.replies turn reply }) kept

abbrev pub with_taken : ℕ → Bool → Option Kept → Option Kept
with_taken turn is_closed kept = with_change (λ (n : OpenCall). record n { replies = slots_without is_closed n.replies turn }) kept

abbrev pub with_mark : Id → Option Kept → Option Kept
with_mark id kept = with_change (number_marked id) kept

abbrev pub with_reach : Option Kept → Option Kept
with_reach kept = with_change marked kept

abbrev pub is_marked_at : Option Kept → Bool
is_marked_at kept = is_marked_number (open_number kept)

-- once an open number was finished: a request keeps its answer
abbrev pub kept_answer : Reply → Option Id → Option Kept
kept_answer reply None = None
kept_answer reply (Some id) = Some (Answered id reply)

abbrev pub with_answer : Reply → Option Kept → Option Kept
with_answer reply (Some (Open n)) = kept_answer reply n.id
with_answer reply (Some (Answered id old)) = Some (Answered id old)
with_answer reply None = None

-- once its answer was released
abbrev pub without_answer : Option Kept → Option Kept
without_answer (Some (Open n)) = Some (Open n)
without_answer (Some (Answered id reply)) = None
without_answer None = None
