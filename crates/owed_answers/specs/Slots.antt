-- The slots of a unit, as a list.
use Rattle.std.specs.Prelude.{◌∷◌, [], true, false, Some}
use Rattle.owed_answers.specs.declared.owed.Slots.{Slots}
use Rattle.owed_answers.specs.declared.owed.Slots.TheVariants.{One, Given, Several}
use Rattle.owed_answers.specs.Owed.{OwedUnit, seen_slot}

abbrev pub unit_of : Slots → OwedUnit
unit_of (One slot) = record { is_batch = false; slots = seen_slot slot ∷ [] }
unit_of (Given text) = record { is_batch = false; slots = Some text.value.items ∷ [] }
unit_of (Several batch) = record { is_batch = true; slots = batch.value }
