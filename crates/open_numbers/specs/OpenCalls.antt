-- A call of the other side while it is open, and how cancels reach it (LSP 3.17, "Cancellation Support").
use Rattle.std.specs.Prelude.{ℕ, ◌&&◌, ◌||◌, not, Option, Some, None, Bool, true, false, replicate}
use Rattle.message_ids.specs.declared.id.Id.{Id}
use Rattle.message_ids.specs.Ids.{has_id}
use Rattle.open_numbers.specs.declared.open_call.OpenCall.{OpenCall}
use Rattle.open_numbers.specs.declared.replies.Slot.TheVariants.{Empty}

-- a call as it arrives: unmarked, with an empty slot for each of its turns
abbrev pub new_number : Option Id → ℕ → OpenCall
new_number id most = record { id = id; is_marked = false; replies = replicate most Empty }

-- a number once a cancel has reached it
abbrev pub marked : OpenCall → OpenCall
marked n = record n { is_marked = true }

abbrev pub is_marked_number : Option OpenCall → Bool
is_marked_number None = false
is_marked_number (Some n) = n.is_marked

-- a cancel of this id would mark the number: it is an open request with that id, and no cancel has reached it
abbrev pub is_in_reach : Id → Option OpenCall → Bool
is_in_reach id None = false
is_in_reach id (Some n) = has_id id n.id && not n.is_marked

-- once a cancel of this id, whose own number is above, has marked all that it reaches
abbrev pub number_marked : Id → OpenCall → OpenCall
number_marked id n = record n { is_marked = n.is_marked || has_id id n.id }
