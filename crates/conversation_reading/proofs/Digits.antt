-- The number that digits write, one digit after another.
use Rattle.std.proofs.Common.{◌≡◌, ℕ, zero, suc, ◌+◌, ◌*◌, ◌<◌, List, [], ◌∷◌, ◌++◌, length, take, slice_index, refl, ap, ◌∙◌, arith}
use Rattle.std.specs.Prelude.{min}
use Rattle.conversation_reading.specs.Numbers.{digit_of, number_after, number_of}

number_after-append : (n : ℕ) (xs : List ℕ) (b : ℕ) → number_after n (xs ++ b ∷ []) ≡ 10 * number_after n xs + digit_of b
number_after-append n [] b = refl
number_after-append n (x ∷ xs) b = number_after-append (10 * n + digit_of x) xs b

taken : (vs : List ℕ) (k : ℕ) → k < length vs → take (k + 1) vs ≡ take k vs ++ slice_index vs k ∷ []
taken [] k h = absurd (let f : k < 0 = h in omega (arith, f))
taken (w ∷ vs) zero h = refl
taken (w ∷ vs) (suc k) h = ap (λ n. take n (w ∷ vs)) (let f : suc k + 1 ≡ suc (k + 1) = omega arith in f) ∙ ap (λ us. w ∷ us) (taken vs k (let f : suc k < suc (length vs) = h in omega (arith, f)))

-- one more digit
pub number_of-more : (digits : List ℕ) (k : ℕ) → k < length digits → number_of (take (k + 1) digits) ≡ 10 * number_of (take k digits) + digit_of (slice_index digits k)
number_of-more digits k h = ap number_of (taken digits k h) ∙ number_after-append 0 (take k digits) (slice_index digits k)

-- a number that is cut at a limit, and one more digit
pub min_more : (n digit most : ℕ) → min (10 * min n most + digit) most ≡ min (10 * n + digit) most
min_more n digit most = omega arith
