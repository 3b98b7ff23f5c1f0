-- One digit more.
use Rattle.std.proofs.Common.{◌≡◌, ℕ, zero, suc, ◌+◌, ◌<◌, List, [], ◌∷◌, ◌++◌, length, take, refl, ap, ◌∙◌, arith, slice_index}

pub taken : (vs : List ℕ) (k : ℕ) → k < length vs → take (k + 1) vs ≡ take k vs ++ slice_index vs k ∷ []
taken [] k h = absurd (let f : k < 0 = h in omega (arith, f))
taken (w ∷ vs) zero h = refl
taken (w ∷ vs) (suc k) h = ap (λ n. take n (w ∷ vs)) (let f : suc k + 1 ≡ suc (k + 1) = omega arith in f) ∙ ap (λ us. w ∷ us) (taken vs k (let f : suc k < suc (length vs) = h in omega (arith, f)))
