-- The slots of a batch, as a list.
use Rattle.std.specs.Prelude.{◌≡◌, ℕ, ◌≤◌, List, Option, Some, length, map, slice_range}
use Rattle.std.specs.List.{All}
use Rattle.owed_answers.specs.declared.held.Held.{Held}
use Rattle.owed_answers.specs.declared.held.Held.TheVariants.{AsCame, Given}
use Rattle.owed_answers.specs.Owed.{lacking_slots, seen_slot}

-- of a slot, where these are the answers that were given, one behind another
abbrev pub seen_held : List ℕ → Held → Option (List ℕ)
seen_held given (AsCame slot) = seen_slot slot
seen_held given (Given start end) = Some (slice_range given start end)

abbrev pub held_slots : List ℕ → List Held → List (Option (List ℕ))
held_slots given held = map (seen_held given) held

-- an answer stands within those that were given
abbrev pub IsWithin : List ℕ → Held → Type 0
IsWithin given (AsCame slot) = Unit {0}
IsWithin given (Given start end) = (start ≤ end) × (end ≤ length given)

pub record IsBatch (held : List Held) (lacking : ℕ) (given : List ℕ) : Type 0 where
  pub within : All (IsWithin given) held
  pub counted : lacking ≡ lacking_slots (held_slots given held)
