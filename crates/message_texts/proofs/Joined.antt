-- The texts of an array, one more at the end.
use Rattle.std.proofs.Common.{◌≡◌, ℕ, zero, suc, ◌+◌, ◌<◌, ◌≤◌, List, [], ◌∷◌, ◌++◌, length, take, get_or, true, if◌then◌else◌, refl, sym, ap, ◌∙◌, arith, append_assoc, codes, inl, inr, subst}
use Rattle.std.specs.Prelude.{nat_lt, ◌⊎◌}
use Rattle.std.proofs.lemmas.Bool.{cases_lt}
use Rattle.std.specs.List.{join_with_byte}
use Rattle.std.proofs.lemmas.Bool.Decides.{nat_tests}

join-more : (x y : List ℕ) (ys : List (List ℕ)) → join_with_byte 44 (y ∷ ys ++ x ∷ []) ≡ join_with_byte 44 (y ∷ ys) ++ 44 ∷ x
join-more x y [] = refl
join-more x y (z ∷ ys) = ap (λ s. y ++ 44 ∷ s) (join-more x z ys) ∙ sym (append_assoc y (44 ∷ join_with_byte 44 (z ∷ ys)) (44 ∷ x))

taken : (ts : List (List ℕ)) (i : ℕ) → i < length ts → take (i + 1) ts ≡ take i ts ++ get_or ts i [] ∷ []
taken [] i h = absurd (let f : i < 0 = h in omega (arith, f))
taken (t ∷ ts) zero h = refl
taken (t ∷ ts) (suc i) h = ap (λ n. take n (t ∷ ts)) (let f : suc i + 1 ≡ suc (i + 1) = omega arith in f) ∙ ap (λ us. t ∷ us) (taken ts i (let f : suc i < suc (length ts) = h in omega (arith, f)))

is_later : (i : ℕ) → nat_lt 0 (suc i) ≡ true
is_later i = grind (arith, nat_tests)

-- the text with the comma before it, where others stand before it
joined_at : (ts : List (List ℕ)) (i : ℕ) → i < length ts →
    join_with_byte 44 (take i ts ++ get_or ts i [] ∷ []) ≡ join_with_byte 44 (take i ts) ++ (if nat_lt 0 i then codes "," else []) ++ get_or ts i []
joined_at [] i h = absurd (let f : i < 0 = h in omega (arith, f))
joined_at (t ∷ ts) zero h = refl
joined_at (t ∷ ts) (suc i) h =
    join-more (get_or ts i []) t (take i ts) ∙ sym (append_assoc (join_with_byte 44 (t ∷ take i ts)) (codes ",") (get_or ts i []))
    ∙ ap (λ b. join_with_byte 44 (t ∷ take i ts) ++ (if b then codes "," else []) ++ get_or ts i []) (sym (is_later i))

-- one text more in the row
pub joined_more : (begun so_far new : List ℕ) (i : ℕ) (ts : List (List ℕ)) → i < length ts → so_far ≡ begun ++ join_with_byte 44 (take i ts) →
    new ≡ so_far ++ (if nat_lt 0 i then codes "," else []) ++ get_or ts i [] → new ≡ begun ++ join_with_byte 44 (take (i + 1) ts)
joined_more begun so_far new i ts h before put =
    let comma = if nat_lt 0 i then codes "," else [] in
    let row = join_with_byte 44 (take i ts) in
    put ∙ ap (λ s. s ++ comma ++ get_or ts i []) before
    ∙ ap (λ s. s ++ get_or ts i []) (append_assoc begun row comma)
    ∙ append_assoc begun (row ++ comma) (get_or ts i [])
    ∙ ap (λ s. begun ++ s) (sym (joined_at ts i h) ∙ ap (join_with_byte 44) (sym (taken ts i h)))

-- what is known of each entry before, and of one more
pub one_more : (K : ℕ → Type 0) (n : ℕ) → ((i : ℕ) → i < n → K i) → K n → (i : ℕ) → i < n + 1 → K i
one_more K n before here i h = by_cases (cases_lt i n)
  where
    by_cases : (i < n) ⊎ (n ≤ i) → K i
    by_cases (inl low) = before i low
    by_cases (inr high) = let same : n ≡ i = omega (arith, h, high) in subst K same here
