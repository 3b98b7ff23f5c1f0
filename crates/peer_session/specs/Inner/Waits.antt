-- The turns that a handler waits for, one after another.
use Rattle.std.specs.Prelude.{◌≡◌, ℕ, ◌+◌, ◌<◌, ◌==◌, List, [], ◌∷◌, length, drop, not, Option, Some, None}
use Rattle.std.specs.List.{filter}

-- The turn at a place, which stands there alone: without it the others are left.
pub record StandsAlone (waits : List ℕ) (place turn : ℕ) : Type 0 where
  pub within : place < length waits
  pub rest : drop place waits ≡ turn ∷ drop (place + 1) waits
  pub others : drop place (filter (λ wait. not (wait == turn)) waits) ≡ drop (place + 1) waits

abbrev pub IsNextWait : List ℕ → ℕ → Option ℕ → Type 0
IsNextWait waits place None = drop place waits ≡ []
IsNextWait waits place (Some turn) = StandsAlone waits place turn
