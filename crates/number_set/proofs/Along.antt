-- Counting along the levels, one after another.
use Rattle.std.proofs.Common.{◌≡◌, ℕ, zero, suc, ◌+◌, ◌-◌, ◌<◌, ◌≤◌, List, [], ◌∷◌, length, map, set, slice_index, slice_index_or, refl, ap, arith}
use Rattle.number_set.specs.Levels.{half, half_often, HasPlace, HasOne, one_more, one_less, one_more_up_to, one_less_up_to}

pub mapped_at : {X : Type 0} (f : X → List ℕ) (xs : List X) (k : ℕ) (d : X) → k < length xs → f (slice_index_or xs k d) ≡ slice_index_or (map f xs) k []
mapped_at f [] k d h = absurd (omega (arith, h))
mapped_at f (x ∷ xs) zero d h = refl
mapped_at f (x ∷ xs) (suc k) d h = mapped_at f xs k d (omega (arith, h))

pub mapped_set : {X : Type 0} (f : X → List ℕ) (xs : List X) (k : ℕ) (v : X) → map f (set xs k v) ≡ set (map f xs) k (f v)
mapped_set f [] k v = refl
mapped_set f (x ∷ xs) zero v = refl
mapped_set f (x ∷ xs) (suc k) v = ap (λ ys. f x ∷ ys) (mapped_set f xs k v)

pub half_often-suc : (k i : ℕ) → half_often (suc k) i ≡ half (half_often k i)
half_often-suc zero i = refl
half_often-suc (suc k) i = half_often-suc k (half i)

pub length-more_up_to : (k i : ℕ) (ls : List (List ℕ)) → length (one_more_up_to k i ls) ≡ length ls
length-more_up_to zero i ls = refl
length-more_up_to (suc k) i [] = refl
length-more_up_to (suc k) i (l ∷ ls) = omega (arith, length-more_up_to k (half i) ls)

pub next_more-fits : (k i : ℕ) (ls : List (List ℕ)) → HasPlace i ls → k < length ls
    → (half_often k i < length (slice_index_or (one_more_up_to k i ls) k [])) × (slice_index (slice_index_or (one_more_up_to k i ls) k []) (half_often k i) < 4294967295)
next_more-fits k i [] p h = absurd (omega (arith, h))
next_more-fits zero i (l ∷ ls) p h = (p.0, p.1)
next_more-fits (suc k) i (l ∷ ls) p h = next_more-fits k (half i) ls p.2 (omega (arith, h))

pub next_more : (k i : ℕ) (ls : List (List ℕ)) → k < length ls
    → set (one_more_up_to k i ls) k (set (slice_index_or (one_more_up_to k i ls) k []) (half_often k i) (slice_index (slice_index_or (one_more_up_to k i ls) k []) (half_often k i) + 1)) ≡ one_more_up_to (suc k) i ls
next_more k i [] h = absurd (omega (arith, h))
next_more zero i (l ∷ ls) h = refl
next_more (suc k) i (l ∷ ls) h = ap (λ ms. set l i (slice_index l i + 1) ∷ ms) (next_more k (half i) ls (omega (arith, h)))

pub all_more : (k i : ℕ) (ls : List (List ℕ)) → length ls ≤ k → one_more_up_to k i ls ≡ one_more i ls
all_more zero i [] h = refl
all_more zero i (l ∷ ls) h = absurd (omega (arith, h))
all_more (suc k) i [] h = refl
all_more (suc k) i (l ∷ ls) h = ap (λ ms. set l i (slice_index l i + 1) ∷ ms) (all_more k (half i) ls (omega (arith, h)))

pub length-less_up_to : (k i : ℕ) (ls : List (List ℕ)) → length (one_less_up_to k i ls) ≡ length ls
length-less_up_to zero i ls = refl
length-less_up_to (suc k) i [] = refl
length-less_up_to (suc k) i (l ∷ ls) = omega (arith, length-less_up_to k (half i) ls)

pub next_less-fits : (k i : ℕ) (ls : List (List ℕ)) → HasOne i ls → k < length ls
    → (half_often k i < length (slice_index_or (one_less_up_to k i ls) k [])) × (0 < slice_index (slice_index_or (one_less_up_to k i ls) k []) (half_often k i))
next_less-fits k i [] p h = absurd (omega (arith, h))
next_less-fits zero i (l ∷ ls) p h = (p.0, p.1)
next_less-fits (suc k) i (l ∷ ls) p h = next_less-fits k (half i) ls p.2 (omega (arith, h))

pub next_less : (k i : ℕ) (ls : List (List ℕ)) → k < length ls
    → set (one_less_up_to k i ls) k (set (slice_index_or (one_less_up_to k i ls) k []) (half_often k i) (slice_index (slice_index_or (one_less_up_to k i ls) k []) (half_often k i) - 1)) ≡ one_less_up_to (suc k) i ls
next_less k i [] h = absurd (omega (arith, h))
next_less zero i (l ∷ ls) h = refl
next_less (suc k) i (l ∷ ls) h = ap (λ ms. set l i (slice_index l i - 1) ∷ ms) (next_less k (half i) ls (omega (arith, h)))

pub all_less : (k i : ℕ) (ls : List (List ℕ)) → length ls ≤ k → one_less_up_to k i ls ≡ one_less i ls
all_less zero i [] h = refl
all_less zero i (l ∷ ls) h = absurd (omega (arith, h))
all_less (suc k) i [] h = refl
all_less (suc k) i (l ∷ ls) h = ap (λ ms. set l i (slice_index l i - 1) ∷ ms) (all_less k (half i) ls (omega (arith, h)))
