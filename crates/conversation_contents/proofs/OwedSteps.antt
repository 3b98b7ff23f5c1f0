-- One element of a list more.
use Rattle.std.proofs.Common.{◌≡◌, ℕ, zero, suc, ◌+◌, ◌<◌, ◌≤◌, List, [], ◌∷◌, ◌++◌, length, take, drop, get_or, ap, ◌∙◌, arith, add-one, drop-cons, map}
use Rattle.std.proofs.Math.ListN.{set}
use Rattle.std.proofs.lemmas.List.{get_or_default}
use Rattle.std.proofs.Math.Seq.{drop-nil}

pub drop_here : {X : Type 0} (xs : List X) (i : ℕ) (x : X) → i < length xs → x ≡ get_or xs i x → drop i xs ≡ x ∷ drop (i + 1) xs
drop_here xs i x lt is = rw (drop-cons xs i x lt, add-one, ← is)

pub drop_at : {X : Type 0} (xs : List X) (i : ℕ) (d : X) → i < length xs → drop i xs ≡ get_or xs i d ∷ drop (i + 1) xs
drop_at xs i d lt = drop_here xs i (get_or xs i d) lt (get_or_default xs i d (get_or xs i d) lt)

pub drop_past : {X : Type 0} (xs : List X) (i : ℕ) → length xs ≤ i → drop i xs ≡ []
drop_past [] i le = drop-nil i
drop_past (x ∷ xs) zero le = absurd (let e : suc (length xs) ≤ 0 = le in omega (arith, e))
drop_past (x ∷ xs) (suc i) le = drop_past xs i (let e : suc (length xs) ≤ suc i = le in omega (arith, e))

-- each one before this place is changed
mapped_here : {X : Type 0} (f : X → X) (xs : List X) (i : ℕ) (x y : X) → i < length xs → x ≡ get_or (map f (take i xs) ++ drop i xs) i x → y ≡ f x → set (map f (take i xs) ++ drop i xs) i y ≡ map f (take (suc i) xs) ++ drop (suc i) xs
mapped_here f [] i x y lt here is = absurd (let e : i < 0 = lt in omega (arith, e))
mapped_here f (w ∷ xs) zero x y lt here is =
    let first : x ≡ w = here in
    ap (λ z. z ∷ xs) (is ∙ ap f first)
mapped_here f (w ∷ xs) (suc i) x y lt here is =
    ap (λ zs. f w ∷ zs) (mapped_here f xs i x y (let e : suc i < suc (length xs) = lt in omega (arith, e)) here is)

pub mapped_one : {X : Type 0} (f : X → X) (xs ys : List X) (i : ℕ) (x y : X) → i < length xs → ys ≡ map f (take i xs) ++ drop i xs → x ≡ get_or ys i x → y ≡ f x → set ys i y ≡ map f (take (i + 1) xs) ++ drop (i + 1) xs
mapped_one f xs ys i x y lt all here is =
    ap (λ zs. set zs i y) all
    ∙ mapped_here f xs i x y lt (here ∙ ap (λ zs. get_or zs i x) all) is
    ∙ ap (λ n. map f (take n xs) ++ drop n xs) (let e : suc i ≡ i + 1 = omega arith in e)
