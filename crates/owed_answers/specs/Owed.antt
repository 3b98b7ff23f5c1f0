-- The answers that aren't out yet.
use Rattle.std.specs.Prelude.{ℕ, ◌+◌, Bool, true, false, List, [], ◌∷◌, ◌++◌, Option, Some, None, map, filter, slice_get, slice_set, count_by, if◌then◌else◌}
use Rattle.std.specs.Option.{is_none, unwrap_or}
use Rattle.message_ids.specs.declared.id.Id.TheVariants.{Null}
use Rattle.message_ids.specs.declared.standard.Standard.TheVariants.{InvalidRequest, ParseError}
use Rattle.connection_messages.specs.Texts.{answer_text, batch_text}
use Rattle.connection_messages.specs.declared.answer.Answer.TheVariants.{Standard}
use Rattle.owed_answers.specs.declared.slot.Slot.{Slot}
use Rattle.owed_answers.specs.declared.slot.Slot.TheVariants.{Lacking, Invalid, Unreadable}

-- Of one unit, a slot for each entry that may have an answer. The text stands there once it is given: an empty one where
-- the entry has no answer after all.
pub record OwedUnit : Type 0 where
  pub is_batch : Bool
  pub slots : List (Option (List ℕ))

-- how many places there were, and the units whose answer isn't out, by their places
pub record OwedState : Type 0 where
  pub places : ℕ
  pub owed : List (ℕ × OwedUnit)

-- the unit at the next place is owed its answers
abbrev pub opened : OwedUnit → OwedState → OwedState
opened unit s = record { places = s.places + 1; owed = s.owed ++ (s.places, unit) ∷ [] }

-- the answer to an entry that is no request (JSON-RPC 2.0, section 5.1)
abbrev pub invalid_text : List ℕ
invalid_text = answer_text Null (Standard InvalidRequest)

-- the answer to a content that is unreadable
abbrev pub unreadable_text : List ℕ
unreadable_text = answer_text Null (Standard ParseError)

-- what a slot of a program holds at first
abbrev pub seen_slot : Slot → Option (List ℕ)
seen_slot Lacking = None
seen_slot Invalid = Some invalid_text
seen_slot Unreadable = Some unreadable_text

abbrev pub lacking_slots : List (Option (List ℕ)) → ℕ
lacking_slots slots = count_by is_none slots

-- how many texts are still to be given
abbrev pub lacking : OwedUnit → ℕ
lacking unit = lacking_slots unit.slots

-- this slot's text is given
abbrev pub given : ℕ → List ℕ → OwedUnit → OwedUnit
given slot text unit = record unit { slots = slice_set unit.slots slot (Some text) }

-- what stands in this slot, where there is one
abbrev pub slot_in : ℕ → List (Option (List ℕ)) → Option (List ℕ)
slot_in slot slots = unwrap_or (slice_get slots slot) None

-- ---- what is written

-- No JSON text is empty: an empty text is no answer.
abbrev pub is_answer : List ℕ → Bool
is_answer [] = false
is_answer (b ∷ bs) = true

-- the text that stands in a slot
abbrev pub slot_text : Option (List ℕ) → List ℕ
slot_text slot = unwrap_or slot []

-- the answers that stand in these slots
abbrev pub slot_texts : List (Option (List ℕ)) → List (List ℕ)
slot_texts slots = filter is_answer (map slot_text slots)

abbrev pub texts_of : OwedUnit → List (List ℕ)
texts_of unit = slot_texts unit.slots

-- of these answers the text of the unit: none where there are none; that of a single entry as it is, those of a batch as
-- one array
abbrev pub joined : Bool → List (List ℕ) → List (List ℕ)
joined batch [] = []
joined batch (t ∷ ts) = (if batch then batch_text (t ∷ ts) else t) ∷ []

-- the text of the unit, where it has something to write
abbrev pub unit_texts : OwedUnit → List (List ℕ)
unit_texts unit = joined unit.is_batch (texts_of unit)

abbrev pub first_or_none : List (List ℕ) → List ℕ
first_or_none [] = []
first_or_none (t ∷ ts) = t

-- that text, and an empty one where there is nothing to write
abbrev pub unit_text : OwedUnit → List ℕ
unit_text unit = first_or_none (unit_texts unit)

-- whether there is something to write
abbrev pub some_text : List (List ℕ) → Bool
some_text [] = false
some_text (t ∷ ts) = true

abbrev pub has_answer : OwedUnit → Bool
has_answer unit = some_text (texts_of unit)
