-- The units that are left, as the desk keeps them: which of their requests are finished, and with what.
use Rattle.std.specs.Prelude.{ℕ, ◌+◌, List, [], ◌∷◌, Option, Some, None, option_map}
use Rattle.message_ids.specs.declared.id.Id.{Id}
use Rattle.rpc_messages.specs.declared.reply.Reply.{Reply}
use Rattle.rpc_messages.specs.Dues.{unit_kind}
use Rattle.rpc_messages.specs.Entry.{SeenEntry, call, reply, stray, invalid}
use Rattle.rpc_messages.specs.Numbering.{numbers_of, unit_numbers}
use Rattle.rpc_messages.specs.Unit.{SeenUnit, unreadable, single, batch}
use Rattle.answer_desk.specs.declared.shape.Place.{Place}
use Rattle.answer_desk.specs.declared.shape.Place.TheVariants as places
use Rattle.answer_desk.specs.declared.shape.Shape.{Shape}
use Rattle.answer_desk.specs.Waiting.{Part, Waiting, request, silent as no_answer, invalid as no_call, unreadable as no_json}
use Rattle.peer_output.specs.Course.{Course}

-- a number's answer, once it is finished
abbrev pub finished_with : Option Course → Option Reply
finished_with took = option_map (λ (c : Course). c.answer) took

-- the call with this number: a request waits for its answer, and a notification for none
abbrev pub call_left : (ℕ → Option Course) → ℕ → Option Id → Part
call_left took n None = no_answer
call_left took n (Some id) = request n id (finished_with (took n))

abbrev pub entry_left : (ℕ → Option Course) → ℕ → SeenEntry → Part
entry_left took n (call c) = call_left took n c.id
entry_left took n (reply m t r) = no_answer
entry_left took n stray = no_answer
entry_left took n invalid = no_call

-- entries, where the first call has this number
abbrev pub entries_left : (ℕ → Option Course) → ℕ → List SeenEntry → List Part
entries_left took n [] = []
entries_left took n (e ∷ es) = entry_left took n e ∷ entries_left took (n + numbers_of e) es

abbrev pub parts_left : (ℕ → Option Course) → ℕ → SeenUnit → List Part
parts_left took n unreadable = no_json ∷ []
parts_left took n (single e) = entry_left took n e ∷ []
parts_left took n (batch es) = entries_left took n es

abbrev pub unit_left : (ℕ → Option Course) → ℕ → SeenUnit → Waiting
unit_left took n u = record { kind = unit_kind u; parts = parts_left took n u }

-- units, in their order
abbrev pub units_left : (ℕ → Option Course) → ℕ → List SeenUnit → List Waiting
units_left took n [] = []
units_left took n (u ∷ us) = unit_left took n u ∷ units_left took (n + unit_numbers u) us

-- ---- as it comes to the desk

-- an entry, where the call with a number may use so many turns
abbrev pub place_for : (ℕ → ℕ) → ℕ → SeenEntry → Place
place_for most n (call c) = places.Numbered c.id (most n)
place_for most n (reply m t r) = places.Silent
place_for most n stray = places.Silent
place_for most n invalid = places.Invalid

abbrev pub places_for : (ℕ → ℕ) → ℕ → List SeenEntry → List Place
places_for most n [] = []
places_for most n (e ∷ es) = place_for most n e ∷ places_for most (n + numbers_of e) es

-- the shape of a unit whose first call has this number
abbrev pub unit_places : (ℕ → ℕ) → ℕ → SeenUnit → List Place
unit_places most n unreadable = places.Unreadable ∷ []
unit_places most n (single e) = place_for most n e ∷ []
unit_places most n (batch es) = places_for most n es

abbrev pub shape_for : (ℕ → ℕ) → ℕ → SeenUnit → Shape
shape_for most n u = record { kind = unit_kind u; places = unit_places most n u }
