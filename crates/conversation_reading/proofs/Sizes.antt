-- Sizes of whole numbers, within 64 bits or beyond.
use Rattle.std.proofs.Common.{◌≡◌, ℕ, zero, suc, ◌+◌, ◌-◌, ◌*◌, ◌^◌, ◌<◌, ◌≤◌, List, [], ◌∷◌, ◌++◌, length, take, drop, slice_index, Some, None, refl, sym, ap, ◌∙◌, arith, ⊎_elim}
use Rattle.std.proofs.Math.Nat.{pow-suc, pow-le-pow_right}
use Rattle.std.proofs.lemmas.Grind.{common_steps}
use Rattle.std.proofs.lemmas.Bool.{cases_lt}
use Rattle.std.proofs.lemmas.List.{drop_more, take_all}
use Rattle.std.specs.Prelude.{min}
use Rattle.conversation_reading.specs.Numbers.{digit_of, number_after, number_of}
use Rattle.conversation_reading.specs.Wholes.{if_64_bits, moved_right}

pub le-number_after : (n : ℕ) (ds : List ℕ) → n ≤ number_after n ds
le-number_after n [] = let h : n ≤ n = omega arith in h
le-number_after n (d ∷ ds) =
    let h : 10 * n + digit_of d ≤ number_after (10 * n + digit_of d) ds = le-number_after (10 * n + digit_of d) ds in
    let f : n ≤ number_after (10 * n + digit_of d) ds = omega (arith, h) in f

pub number_after-append : (n : ℕ) (xs ys : List ℕ) → number_after n (xs ++ ys) ≡ number_after (number_after n xs) ys
number_after-append n [] ys = refl
number_after-append n (x ∷ xs) ys = number_after-append (10 * n + digit_of x) xs ys

pub within : (n : ℕ) → n < 2 ^ 64 → Some n ≡ if_64_bits n
within n h = grind (arith, common_steps, h)

pub beyond : (n : ℕ) → 2 ^ 64 ≤ n → None ≡ if_64_bits n
beyond n h = grind (arith, common_steps, h)

-- ---- one more digit

pub digit_more : (n : ℕ) (ds : List ℕ) (k m : ℕ) → k < length ds → number_after n (drop k ds) ≡ m → number_after (n * 10 + digit_of (slice_index ds k)) (drop (k + 1) ds) ≡ m
digit_more n ds k m h so_far =
    let turned : n * 10 + digit_of (slice_index ds k) ≡ 10 * n + digit_of (slice_index ds k) = omega arith in
    ap (λ t. number_after t (drop (k + 1) ds)) turned ∙ ap (number_after n) (sym (drop_more ds k 0 h)) ∙ so_far

pub digit_too_many : (n : ℕ) (ds : List ℕ) (k m : ℕ) → k < length ds → number_after n (drop k ds) ≡ m → 2 ^ 64 ≤ n * 10 + digit_of (slice_index ds k) → None ≡ if_64_bits m
digit_too_many n ds k m h so_far large =
    let grown : n * 10 + digit_of (slice_index ds k) ≤ number_after (n * 10 + digit_of (slice_index ds k)) (drop (k + 1) ds) = le-number_after (n * 10 + digit_of (slice_index ds k)) (drop (k + 1) ds) in
    let same : number_after (n * 10 + digit_of (slice_index ds k)) (drop (k + 1) ds) ≡ m = digit_more n ds k m h so_far in
    beyond m (omega (arith, grown, same, large))

-- ---- one more zero

pub zero_more : (n left m : ℕ) → 0 < left → n * 10 ^ left ≡ m → (n * 10) * 10 ^ (left - 1) ≡ m
zero_more n zero m h so_far = absurd (omega (arith, h))
zero_more n (suc left) m h so_far =
    let less : suc left - 1 ≡ left = omega arith in
    let p : 10 ^ suc left ≡ 10 ^ left * 10 = pow-suc 10 left in
    let turned : (n * 10) * 10 ^ left ≡ n * (10 ^ left * 10) = omega arith in
    ap (λ k. (n * 10) * 10 ^ k) less ∙ turned ∙ ap (λ t. n * t) (sym p) ∙ so_far

pub ten-positive : (k : ℕ) → 1 ≤ 10 ^ k
ten-positive zero = let h : 1 ≤ 1 = omega arith in h
ten-positive (suc k) = let h : 1 ≤ 10 ^ k = ten-positive k in let p : 10 ^ suc k ≡ 10 ^ k * 10 = pow-suc 10 k in omega (arith, h, p)

pub le-times : (n p : ℕ) → 1 ≤ p → n ≤ n * p
le-times n zero h = absurd (omega (arith, h))
le-times n (suc p) h = let f : n ≤ n * suc p = omega arith in f

pub zero_too_many : (n left m : ℕ) → 0 < left → n * 10 ^ left ≡ m → 2 ^ 64 ≤ n * 10 → None ≡ if_64_bits m
zero_too_many n left m h so_far large =
    let same : (n * 10) * 10 ^ (left - 1) ≡ m = zero_more n left m h so_far in
    let grown : n * 10 ≤ (n * 10) * 10 ^ (left - 1) = le-times (n * 10) (10 ^ (left - 1)) (ten-positive (left - 1)) in
    beyond m (omega (arith, same, grown, large))

-- ---- the point moved to the right

pub none_is : (m : ℕ) → None ≡ if_64_bits m → 2 ^ 64 ≤ m
none_is m h = grind (arith, common_steps, h)

pub some_is : (m n : ℕ) → Some n ≡ if_64_bits m → n ≡ m
some_is m n h = grind (arith, common_steps, h)

pub before_too_large : (before fraction : List ℕ) (places : ℕ) → 2 ^ 64 ≤ number_of before → None ≡ if_64_bits (moved_right before fraction places)
before_too_large before fraction places large =
    let digits : List ℕ = take places fraction in
    let parts : number_of (before ++ digits) ≡ number_after (number_of before) digits = number_after-append 0 before digits in
    let grown : number_of before ≤ number_after (number_of before) digits = le-number_after (number_of before) digits in
    let more : number_of (before ++ digits) ≤ number_of (before ++ digits) * 10 ^ (places - length fraction) = le-times (number_of (before ++ digits)) (10 ^ (places - length fraction)) (ten-positive (places - length fraction)) in
    beyond (moved_right before fraction places) (omega (arith, large, parts, grown, more))

pub within_fraction : (before fraction : List ℕ) (places whole : ℕ) → places ≤ length fraction → whole ≡ number_of before → number_after whole (take places fraction) ≡ moved_right before fraction places
within_fraction before fraction places whole h is =
    let digits : List ℕ = take places fraction in
    let none : places - length fraction ≡ 0 = omega (arith, h) in
    let one : 10 ^ (places - length fraction) ≡ 1 = ap (λ k. 10 ^ k) none in
    let parts : number_of (before ++ digits) ≡ number_after (number_of before) digits = number_after-append 0 before digits in
    let once : number_of (before ++ digits) ≡ number_of (before ++ digits) * 1 = omega arith in
    ap (λ n. number_after n digits) is ∙ sym parts ∙ once ∙ ap (λ p. number_of (before ++ digits) * p) (sym one)

pub beyond_fraction : (before fraction : List ℕ) (places whole : ℕ) → length fraction < places → whole ≡ number_of before → number_after whole fraction * 10 ^ (places - length fraction) ≡ moved_right before fraction places
beyond_fraction before fraction places whole h is =
    let all : take places fraction ≡ fraction = take_all places fraction (let f : length fraction ≤ places = omega (arith, h) in f) in
    let parts : number_of (before ++ fraction) ≡ number_after (number_of before) fraction = number_after-append 0 before fraction in
    ap (λ n. n * 10 ^ (places - length fraction)) (ap (λ n. number_after n fraction) is ∙ sym parts ∙ ap (λ digits. number_of (before ++ digits)) (sym all))

many : (m k : ℕ) → 1 ≤ m → 64 ≤ k → 2 ^ 64 ≤ m * 10 ^ k
many zero k one h = absurd (omega (arith, one))
many (suc m) k one h =
    let ten : 0 < 10 = omega arith in
    let power : 10 ^ 64 ≤ 10 ^ k = pow-le-pow_right ten h in
    let times : 10 ^ k ≤ suc m * 10 ^ k = let t : 10 ^ k * suc m ≡ suc m * 10 ^ k = omega arith in let l : 10 ^ k ≤ 10 ^ k * suc m = le-times (10 ^ k) (suc m) (let o : 1 ≤ suc m = omega arith in o) in omega (arith, t, l) in
    omega (arith, power, times)

-- a power that is cut at the largest number of 64 bits moves it too far all the same
pub cut_power : (m len n : ℕ) → len < 2 ^ 63 → len < min n (2 ^ 64 - 1) → if_64_bits (m * 10 ^ (min n (2 ^ 64 - 1) - len)) ≡ if_64_bits (m * 10 ^ (n - len))
cut_power m len n short h = ⊎_elim (λ small. ap (λ k. if_64_bits (m * 10 ^ (k - len))) (let f : min n (2 ^ 64 - 1) ≡ n = omega (arith, small) in f)) (λ large. by_size m large) (cases_lt n (2 ^ 64))
  where
    by_size : (m : ℕ) → 2 ^ 64 ≤ n → if_64_bits (m * 10 ^ (min n (2 ^ 64 - 1) - len)) ≡ if_64_bits (m * 10 ^ (n - len))
    by_size zero large = let f : zero * 10 ^ (min n (2 ^ 64 - 1) - len) ≡ zero * 10 ^ (n - len) = omega arith in ap if_64_bits f
    by_size (suc m) large =
        let one : 1 ≤ suc m = omega arith in
        let far : 64 ≤ min n (2 ^ 64 - 1) - len = omega (arith, short, large) in
        let farther : 64 ≤ n - len = omega (arith, short, large) in
        sym (beyond (suc m * 10 ^ (min n (2 ^ 64 - 1) - len)) (many (suc m) (min n (2 ^ 64 - 1) - len) one far)) ∙ beyond (suc m * 10 ^ (n - len)) (many (suc m) (n - len) one farther)
