-- The numbers and the waiting entries of a unit that arrives.
use Rattle.std.specs.Prelude.{ℕ, ◌+◌, List, [], ◌∷◌, Option, Some, None, false, replicate}
use Rattle.message_ids.specs.declared.id.Id.{Id}
use Rattle.answer_desk.specs.declared.shape.Place.{Place}
use Rattle.answer_desk.specs.declared.shape.Place.TheVariants.{Unreadable, Invalid, Silent, Numbered}
use Rattle.open_numbers.specs.declared.open_call.OpenCall.{OpenCall}
use Rattle.open_numbers.specs.declared.replies.Slot.TheVariants.{Empty}
use Rattle.open_numbers.specs.OpenCalls.{new_number}
use Rattle.answer_desk.specs.Waiting.{Part, unreadable, invalid, silent, request}

-- the calls among the places, in their order
abbrev pub new_numbers : List Place → List (Option OpenCall)
new_numbers [] = []
new_numbers (Unreadable ∷ places) = new_numbers places
new_numbers (Invalid ∷ places) = new_numbers places
new_numbers (Silent ∷ places) = new_numbers places
new_numbers (Numbered id most ∷ places) = Some (new_number id most) ∷ new_numbers places

-- the place of a call with this number: a notification is never answered
abbrev pub call_part : ℕ → Option Id → Part
call_part number None = silent
call_part number (Some id) = request number id None

-- the entries, where calls take the numbers from `number` on
abbrev pub new_parts : ℕ → List Place → List Part
new_parts number [] = []
new_parts number (Unreadable ∷ places) = unreadable ∷ new_parts number places
new_parts number (Invalid ∷ places) = invalid ∷ new_parts number places
new_parts number (Silent ∷ places) = silent ∷ new_parts number places
new_parts number (Numbered id most ∷ places) = call_part number id ∷ new_parts (number + 1) places
