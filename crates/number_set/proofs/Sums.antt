-- Pair sums, after a count was changed.
use Rattle.std.proofs.Common.{◌≡◌, ℕ, zero, suc, ◌+◌, ◌-◌, ◌/◌, ◌<◌, ◌≤◌, List, [], ◌∷◌, length, set, slice_index, refl, sym, ap, ◌∙◌, arith}
use Rattle.number_set.specs.Levels.{half, pair_sums, total, AreSums, HasPlace, HasOne, one_more, one_less}

pub half-is : (n : ℕ) → n / 2 ≡ half n
half-is zero = refl
half-is (suc zero) = refl
half-is (suc (suc n)) = omega (arith, half-is n)

pub total-pair_sums : (xs : List ℕ) → total (pair_sums xs) ≡ total xs
total-pair_sums [] = refl
total-pair_sums (a ∷ []) = refl
total-pair_sums (a ∷ b ∷ xs) = omega (arith, total-pair_sums xs)

pub half-within : (i : ℕ) (xs : List ℕ) → i < length xs → half i < length (pair_sums xs)
half-within i [] h = absurd (omega (arith, h))
half-within zero (a ∷ []) h = h
half-within (suc i) (a ∷ []) h = absurd (omega (arith, h))
half-within zero (a ∷ b ∷ xs) h = omega arith
half-within (suc zero) (a ∷ b ∷ xs) h = omega arith
half-within (suc (suc i)) (a ∷ b ∷ xs) h = omega (arith, half-within i xs (omega (arith, h)))

pub more-pair_sums : (i : ℕ) (xs : List ℕ) → i < length xs
    → pair_sums (set xs i (slice_index xs i + 1)) ≡ set (pair_sums xs) (half i) (slice_index (pair_sums xs) (half i) + 1)
more-pair_sums i [] h = absurd (omega (arith, h))
more-pair_sums zero (a ∷ []) h = refl
more-pair_sums (suc i) (a ∷ []) h = absurd (omega (arith, h))
more-pair_sums zero (a ∷ b ∷ xs) h = ap (λ n. n ∷ pair_sums xs) (omega arith)
more-pair_sums (suc zero) (a ∷ b ∷ xs) h = ap (λ n. n ∷ pair_sums xs) (omega arith)
more-pair_sums (suc (suc i)) (a ∷ b ∷ xs) h = ap (λ ns. (a + b) ∷ ns) (more-pair_sums i xs (omega (arith, h)))

pub less-pair_sums : (i : ℕ) (xs : List ℕ) → i < length xs → 0 < slice_index xs i
    → pair_sums (set xs i (slice_index xs i - 1)) ≡ set (pair_sums xs) (half i) (slice_index (pair_sums xs) (half i) - 1)
less-pair_sums i [] h k = absurd (omega (arith, h))
less-pair_sums zero (a ∷ []) h k = refl
less-pair_sums (suc i) (a ∷ []) h k = absurd (omega (arith, h))
less-pair_sums zero (a ∷ b ∷ xs) h k = ap (λ n. n ∷ pair_sums xs) (omega (arith, k))
less-pair_sums (suc zero) (a ∷ b ∷ xs) h k = ap (λ n. n ∷ pair_sums xs) (omega (arith, k))
less-pair_sums (suc (suc i)) (a ∷ b ∷ xs) h k = ap (λ ns. (a + b) ∷ ns) (less-pair_sums i xs (omega (arith, h)) k)

-- ---- levels

pub length-set : (i n : ℕ) (xs : List ℕ) → length (set xs i n) ≡ length xs
length-set i n [] = refl
length-set zero n (x ∷ xs) = refl
length-set (suc i) n (x ∷ xs) = omega (arith, length-set i n xs)

pub sums-more : (i : ℕ) (ls : List (List ℕ)) → AreSums ls → HasPlace i ls → AreSums (one_more i ls)
sums-more i [] h p = tt
sums-more i (l ∷ []) h p = omega (arith, h, length-set i (slice_index l i + 1) l)
sums-more i (l ∷ m ∷ ls) h p =
    (ap (λ xs. set xs (half i) (slice_index xs (half i) + 1)) h.0 ∙ sym (more-pair_sums i l p.0), sums-more (half i) (m ∷ ls) h.1 p.2)

pub sums-less : (i : ℕ) (ls : List (List ℕ)) → AreSums ls → HasOne i ls → AreSums (one_less i ls)
sums-less i [] h p = tt
sums-less i (l ∷ []) h p = omega (arith, h, length-set i (slice_index l i - 1) l)
sums-less i (l ∷ m ∷ ls) h p =
    (ap (λ xs. set xs (half i) (slice_index xs (half i) - 1)) h.0 ∙ sym (less-pair_sums i l p.0 p.1), sums-less (half i) (m ∷ ls) h.1 p.2)

pub at-within : (i : ℕ) (xs : List ℕ) → slice_index xs i ≤ total xs
at-within i [] = omega arith
at-within zero (x ∷ xs) = omega arith
at-within (suc i) (x ∷ xs) = omega (arith, at-within i xs)

at-pair : (i : ℕ) (xs : List ℕ) → slice_index xs i ≤ slice_index (pair_sums xs) (half i)
at-pair i [] = omega arith
at-pair zero (a ∷ []) = omega arith
at-pair (suc zero) (a ∷ []) = omega arith
at-pair (suc (suc i)) (a ∷ []) = omega arith
at-pair zero (a ∷ b ∷ xs) = omega arith
at-pair (suc zero) (a ∷ b ∷ xs) = omega arith
at-pair (suc (suc i)) (a ∷ b ∷ xs) = at-pair i xs

pub has_place : (i : ℕ) (l : List ℕ) (ls : List (List ℕ)) → AreSums (l ∷ ls) → i < length l → total l < 4294967295 → HasPlace i (l ∷ ls)
has_place i l [] h k s = (k, omega (arith, s, at-within i l), tt)
has_place i l (m ∷ ls) h k s =
    (k, omega (arith, s, at-within i l), has_place (half i) m ls h.1 (rw h.0 (half-within i l k)) (omega (arith, s, ap total h.0, total-pair_sums l)))

pub has_one : (i : ℕ) (l : List ℕ) (ls : List (List ℕ)) → AreSums (l ∷ ls) → i < length l → 0 < slice_index l i → HasOne i (l ∷ ls)
has_one i l [] h k s = (k, s, tt)
has_one i l (m ∷ ls) h k s =
    (k, s, has_one (half i) m ls h.1 (rw h.0 (half-within i l k)) (rw h.0 (omega (arith, s, at-pair i l))))

pub pair-within : (i : ℕ) (xs : List ℕ) → slice_index xs i + slice_index xs (suc i) ≤ total xs
pair-within i [] = omega arith
pair-within zero (x ∷ xs) = omega (arith, at-within 0 xs)
pair-within (suc i) (x ∷ xs) = omega (arith, pair-within i xs)
