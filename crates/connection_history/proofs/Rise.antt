-- Numbers that go up.
use Rattle.std.proofs.Common.{◌≡◌, ℕ, zero, suc, ◌+◌, ◌<◌, ◌≤◌, List, [], ◌∷◌, ◌++◌, get_or, subst, arith}
use Rattle.std.specs.List.Sorted.{IsStrictlyIncreasing}

-- The numbers go up, from the lowest on and below the end.
abbrev pub Rise : ℕ → ℕ → List ℕ → Type 0
Rise lowest end [] = lowest ≤ end
Rise lowest end (n ∷ ns) = (lowest ≤ n) × Rise (n + 1) end ns

-- from a lower number on
pub rise-from : (lower lowest end : ℕ) (ns : List ℕ) → lower ≤ lowest → Rise lowest end ns → Rise lower end ns
rise-from lower lowest end [] h up = omega arith
rise-from lower lowest end (n ∷ ns) h up = let first : lowest ≤ n = up.0 in (omega arith, up.1)

-- numbers that go up, and then more
pub rise-append : (lowest middle end : ℕ) (ns more : List ℕ) → Rise lowest middle ns → Rise middle end more → Rise lowest end (ns ++ more)
rise-append lowest middle end [] more h up = rise-from lowest middle end more h up
rise-append lowest middle end (n ∷ ns) more h up = (h.0, rise-append (n + 1) middle end ns more h.1 up)

-- each is below the next
pub strict : (lowest end : ℕ) (ns : List ℕ) → Rise lowest end ns → IsStrictlyIncreasing ns
strict lowest end [] h k lt = absurd (omega arith)
strict lowest end (n ∷ []) h zero lt = absurd (omega arith)
strict lowest end (n ∷ m ∷ ns) h zero lt = let next : n + 1 ≤ m = h.1.0 in omega arith
strict lowest end (n ∷ ns) h (suc k) lt =
    let next : suc (k + 1) ≡ suc k + 1 = omega arith in
    subst (λ j. get_or (n ∷ ns) (suc k) 0 < get_or (n ∷ ns) j 0) next (strict (n + 1) end ns h.1 k (omega arith))
