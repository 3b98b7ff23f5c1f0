-- The bits of a map of free slots.
use Rattle.std.proofs.Common.{◌≡◌, ℕ, ◌+◌, ◌-◌, ◌≤◌, ◌<◌, ◌^◌, ◌/◌, ◌%◌, Bool, true, false, ltb, refl, ap, ◌∙◌, subst, arith}
use Rattle.std.proofs.lemmas.Bool.{ltb-true, ltb-false}
use Rattle.std.specs.Prelude.{nat_lt, if◌then◌else◌}
use Rattle.std.specs.Int.{w128, bit_at, bit_not, trailing_zeros}
use Rattle.std.proofs.lemmas.Nat.Bits.{ones_shr, bit_at-zero, bit_at-lt, bit_at_not, bit_at_above, bit_at_ones, bit_at_ones_above, bit_at-trailing_zeros}
use Rattle.std.proofs.lemmas.Nat.{shr-shr}

ones_at : (slots k : ℕ) (b : Bool) → ltb k slots ≡ b → bit_at (2 ^ slots - 1) k ≡ (if b then 1 else 0)
ones_at slots k true e = bit_at_ones slots k (ltb-true k slots e)
ones_at slots k false e = bit_at_ones_above slots k (ltb-false k slots e)

-- as many ones as there are slots
pub ones_below : (slots k : ℕ) → slots ≤ 128 → bit_at (340282366920938463463374607431768211455 / 2 ^ (128 - slots)) k ≡ (if nat_lt k slots then 1 else 0)
ones_below slots k few =
    let as_many : 340282366920938463463374607431768211455 / 2 ^ (128 - slots) ≡ 2 ^ slots - 1 =
    ones_shr 128 (128 - slots) (omega arith) ∙ ap (λ (n : ℕ). 2 ^ n - 1) (let e : 128 - (128 - slots) ≡ slots = omega arith in e) in
    ap (λ (n : ℕ). bit_at n k) as_many ∙ ones_at slots k (nat_lt k slots) refl

-- the bits that are 0, from a place on
abbrev pub unset : ℕ → ℕ → ℕ
unset n from = bit_not w128 n / 2 ^ from

unset_at : (n from k : ℕ) → n < 2 ^ 128 → from + k < 128 → bit_at (unset n from) k ≡ 1 - bit_at n (from + k)
unset_at n from k fits low = ap (λ x. x % 2) (shr-shr (bit_not w128 n) from k) ∙ bit_at_not w128 n (from + k) fits low

-- where all below so many are 0, the bits are 1
set_below : (n from few k : ℕ) → n < 2 ^ 128 → ((i : ℕ) → i < few → bit_at (unset n from) i ≡ 0) → from ≤ k → k < from + few → k < 128 → bit_at n k ≡ 1
set_below n from few k fits none behind before low =
    let there : from + (k - from) ≡ k = omega arith in
    let h = unset_at n from (k - from) fits (omega arith) in
    let z = none (k - from) (omega arith) in
    subst (λ j. bit_at n j ≡ 1) there (omega (arith, h, z, bit_at-lt n (from + (k - from))))

-- no bit is 0 from there on
pub all_set : (n from : ℕ) → n < 2 ^ 128 → unset n from ≡ 0 → (k : ℕ) → from ≤ k → k < 128 → bit_at n k ≡ 1
all_set n from fits none k behind low = set_below n from 128 k fits (λ i lt. ap (λ m. bit_at m i) none ∙ bit_at-zero i) behind (omega arith) low

within : (n from k : ℕ) (b : Bool) → n < 2 ^ 128 → bit_at (unset n from) k ≡ 1 → ltb (from + k) 128 ≡ b → from + k < 128
within n from k true fits one e = ltb-true (from + k) 128 e
within n from k false fits one e =
    let far = ltb-false (from + k) 128 e in
    let zero_there = ap (λ x. x % 2) (shr-shr (bit_not w128 n) from k) ∙ bit_at_above (bit_not w128 n) 128 (from + k) (omega arith) (omega arith) in
    absurd (omega (arith, one, zero_there))

-- the first bit that is 0, from there on
pub first_unset : (n from : ℕ) → n < 2 ^ 128 → 0 < unset n from → unset n from < 2 ^ 128
    → let k = from + trailing_zeros w128 (unset n from) in (from ≤ k) × (k < 128) × (bit_at n k ≡ 0) × ((i : ℕ) → from ≤ i → i < k → bit_at n i ≡ 1)
first_unset n from fits some small =
    let t = trailing_zeros w128 (unset n from) in
    let found = bit_at-trailing_zeros w128 (unset n from) some small in
    let low = within n from t (ltb (from + t) 128) fits found.1 refl in (
      omega arith,
      low,
      omega (arith, unset_at n from t fits low, found.1, bit_at-lt n (from + t)),
      λ i behind before. set_below n from t i fits found.2 behind before (omega (arith, low)),
    )
