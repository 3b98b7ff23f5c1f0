-- The map of the free slots, a bit for each.
use Rattle.std.specs.Prelude.{ℕ, zero, suc, List, [], ◌∷◌, if◌then◌else◌}
use Rattle.job_slots.specs.declared.view.Look.{Look}
use Rattle.job_slots.specs.Looks.{is_free}

module _ {J : Type 0} where
  -- the bit of the slot i in a map of the free slots
  abbrev pub free_bit : List (Look J) → ℕ → ℕ
  free_bit [] i = 0
  free_bit (l ∷ ls) zero = if is_free l then 1 else 0
  free_bit (l ∷ ls) (suc i) = free_bit ls i
