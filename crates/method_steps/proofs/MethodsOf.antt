-- The methods of a table, place by place.
use Rattle.std.proofs.Common.{◌≡◌, ℕ, zero, suc, ◌<◌, ◌≤◌, List, [], ◌∷◌, length, get_or, Some, None, arith, refl, ap, sym, subst}
use Rattle.std.proofs.lemmas.Option.{same_Some}
use Rattle.std.specs.List.{All, slice_get}

-- what holds of each element holds of the one at a place
pub All-slice_get : {X : Type 0} (P : X → Type 0) → (xs : List X) (k : ℕ) (x : X) → All P xs → slice_get xs k ≡ Some x → P x
All-slice_get P [] k x all at = absurd (none≢some at)
  where
    none≢some : None ≡ Some x → ⊥
    none≢some e = cc
All-slice_get P (y ∷ xs) zero x all at = subst P (same_Some y x at) (all 0 y (omega arith))
All-slice_get P (y ∷ xs) (suc k) x all at = All-slice_get P xs k x (λ i d h. all (suc i) d (omega arith)) at

pub slice_get-within : {X : Type 0} (xs : List X) (k : ℕ) (x : X) → k < length xs → x ≡ get_or xs k x → slice_get xs k ≡ Some x
slice_get-within [] k x h e = absurd (omega arith)
slice_get-within (y ∷ xs) zero x h e = ap Some (sym e)
slice_get-within (y ∷ xs) (suc k) x h e = slice_get-within xs k x (omega arith) e

pub slice_get-past : {X : Type 0} (xs : List X) (k : ℕ) → length xs ≤ k → slice_get xs k ≡ None
slice_get-past [] k h = refl
slice_get-past (y ∷ xs) zero h = absurd (omega arith)
slice_get-past (y ∷ xs) (suc k) h = slice_get-past xs k (omega arith)
