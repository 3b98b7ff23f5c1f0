-- Rows of turns.
use Rattle.std.proofs.Common.{◌≡◌, ℕ, suc, ◌+◌, ◌-◌, ◌<◌, ◌∷◌, refl, arith}
use Rattle.std.specs.List.{range_with_len}

pub range-first : (a b : ℕ) → a < b → range_with_len a (b - a) ≡ a ∷ range_with_len (a + 1) (b - (a + 1))
range-first a b below = let e : b - a ≡ suc (b - (a + 1)) = omega arith in rw e refl
