-- What stands at a place of a list.
use Rattle.std.proofs.Common.{◌≡◌, ℕ, zero, suc, ◌+◌, ◌<◌, ◌≤◌, List, [], ◌∷◌, length, drop, get_or, arith, add-one, drop-cons}
use Rattle.std.proofs.Math.Seq.{drop-nil}

pub drop_here : {X : Type 0} (xs : List X) (i : ℕ) (x : X) → i < length xs → x ≡ get_or xs i x → drop i xs ≡ x ∷ drop (i + 1) xs
drop_here xs i x lt is = rw (drop-cons xs i x lt, add-one, ← is)

pub drop_past : {X : Type 0} (xs : List X) (i : ℕ) → length xs ≤ i → drop i xs ≡ []
drop_past [] i le = drop-nil i
drop_past (x ∷ xs) zero le = absurd (let e : suc (length xs) ≤ 0 = le in omega (arith, e))
drop_past (x ∷ xs) (suc i) le = drop_past xs i (let e : suc (length xs) ≤ suc i = le in omega (arith, e))
