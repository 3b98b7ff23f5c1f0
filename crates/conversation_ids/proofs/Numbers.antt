-- Numbers whose last digits and zeros are taken off.
use Rattle.std.proofs.Common.{◌≡◌, ◌==◌, ◌&&◌, ℕ, zero, suc, ◌+◌, ◌-◌, ◌*◌, ◌/◌, ◌%◌, ◌^◌, ◌<◌, ◌≤◌, List, [], ◌∷◌, ◌++◌, length, Bool, true, false, refl, ap, sym, ◌∙◌, arith, append_assoc, append-nil, eqb-true, eq-eqb}
use Rattle.std.specs.Prelude.{min}
use Rattle.std.proofs.Math.Nat.{pow-succ', mul_assoc}
use Rattle.std.proofs.Math.Dec.{eqb-zero-suc, eqb-suc-zero, eqb-suc-suc}
use Rattle.conversation_reading.specs.Numbers.{number_after, number_of}

-- ---- one digit more

number_after-append : (n : ℕ) (xs : List ℕ) (b : ℕ) → number_after n (xs ++ b ∷ []) ≡ 10 * number_after n xs + (b - 48)
number_after-append n [] b = refl
number_after-append n (x ∷ xs) b = number_after-append (10 * n + (x - 48)) xs b

pub number_of-last : (xs : List ℕ) (b : ℕ) → number_of (xs ++ b ∷ []) ≡ 10 * number_of xs + (b - 48)
number_of-last xs b = number_after-append 0 xs b

-- ---- Bools that say the same

pub both_ways : (a b : Bool) → (a ≡ true → b ≡ true) → (b ≡ true → a ≡ true) → a ≡ b
both_ways true true f g = refl
both_ways true false f g = sym (f refl)
both_ways false true f g = g refl
both_ways false false f g = refl

pub same_test : (a b c d : ℕ) → (a ≡ b → c ≡ d) → (c ≡ d → a ≡ b) → (a == b) ≡ (c == d)
same_test a b c d f g = both_ways (a == b) (c == d) (λ is. eq-eqb c d (f (eqb-true a b is))) (λ is. eq-eqb a b (g (eqb-true c d is)))

pub no_test : (a b : ℕ) → (a ≡ b → ⊥) → false ≡ (a == b)
no_test a b differs = both_ways false (a == b) (λ is. absurd (let e : false ≡ true = is in cc)) (λ is. absurd (differs (eqb-true a b is)))

-- ---- the same last digit, or another one

pub sum_step : (A B x y : ℕ) → x % 10 ≡ y % 10 → (10 * A + x == 10 * B + y) ≡ (A + x / 10 == B + y / 10)
sum_step A B x y same = same_test (10 * A + x) (10 * B + y) (A + x / 10) (B + y / 10) (λ is. omega arith) (λ is. omega arith)

pub sum_differs : (A B x y : ℕ) → (x % 10 ≡ y % 10 → ⊥) → 10 * A + x ≡ 10 * B + y → ⊥
sum_differs A B x y differs is = omega arith

-- ---- a number without zeros at its end

pub ten_times : (A i : ℕ) → A * 10 ^ suc i ≡ 10 * (A * 10 ^ i)
ten_times A i = let e = pow-succ' 10 i in let f : A * 10 ^ suc i ≡ A * (10 * 10 ^ i) = ap (λ n. A * n) e in omega (arith, f)

and_false : (a : Bool) → (a && false) ≡ false
and_false true = refl
and_false false = refl

and_true : (a : Bool) → (a && true) ≡ a
and_true true = refl
and_true false = refl

one_of : (A : ℕ) → A * 10 ^ 0 ≡ A
one_of A = omega arith

pub same_scaled : (A B i j : ℕ) → 0 < A % 10 → 0 < B % 10 → (A * 10 ^ i == B * 10 ^ j) ≡ ((A == B) && (i == j))
same_scaled A B zero zero a b = ap (λ n. n == B * 10 ^ 0) (one_of A) ∙ ap (λ n. A == n) (one_of B) ∙ sym (and_true (A == B))
same_scaled A B zero (suc j) a b =
    sym (no_test (A * 10 ^ 0) (B * 10 ^ suc j) (λ is. let e = ten_times B j in let o = one_of A in let f : A ≡ 10 * (B * 10 ^ j) = sym o ∙ is ∙ e in omega (arith, f)))
    ∙ sym (and_false (A == B)) ∙ ap (λ t. (A == B) && t) (sym (eqb-zero-suc j))
same_scaled A B (suc i) zero a b =
    sym (no_test (A * 10 ^ suc i) (B * 10 ^ 0) (λ is. let e = ten_times A i in let o = one_of B in let f : B ≡ 10 * (A * 10 ^ i) = sym o ∙ sym is ∙ e in omega (arith, f)))
    ∙ sym (and_false (A == B)) ∙ ap (λ t. (A == B) && t) (sym (eqb-suc-zero i))
same_scaled A B (suc i) (suc j) a b =
    same_test (A * 10 ^ suc i) (B * 10 ^ suc j) (A * 10 ^ i) (B * 10 ^ j)
    (λ is. let e = ten_times A i in let f = ten_times B j in omega (arith, e, f, is))
    (λ is. let e = ten_times A i in let f = ten_times B j in e ∙ ap (λ n. 10 * n) is ∙ sym f)
    ∙ same_scaled A B i j a b ∙ ap (λ t. (A == B) && t) (sym (eqb-suc-suc i j))

-- a number that is cut at a limit, and one more digit
pub min_more : (n digit most : ℕ) → min (10 * min n most + digit) most ≡ min (10 * n + digit) most
min_more n digit most = omega arith

-- ---- the last digit of two parts

pub last_behind : (digits front : List ℕ) (d : ℕ) (behind : List ℕ) → behind ≡ front ++ d ∷ [] → number_of (digits ++ behind) ≡ 10 * number_of (digits ++ front) + (d - 48)
last_behind digits front d behind is = ap (λ rest. number_of (digits ++ rest)) is ∙ ap number_of (sym (append_assoc digits front (d ∷ []))) ∙ number_of-last (digits ++ front) d

none_of : (xs : List ℕ) → length xs ≡ 0 → xs ≡ []
none_of [] is = refl
none_of (x ∷ xs) is = absurd (let e : suc (length xs) ≡ 0 = is in omega (arith, e))

pub last_before : (digits front : List ℕ) (d : ℕ) (behind : List ℕ) → digits ≡ front ++ d ∷ [] → length behind ≡ 0 → number_of (digits ++ behind) ≡ 10 * number_of (front ++ behind) + (d - 48)
last_before digits front d behind is none =
    let e = none_of behind none in
    ap (λ rest. number_of (digits ++ rest)) e ∙ ap number_of (append-nil digits ∙ is) ∙ number_of-last front d ∙ ap (λ xs. 10 * number_of xs + (d - 48)) (sym (append-nil front) ∙ ap (λ rest. front ++ rest) (sym e))

pub last_of_none : (digits behind : List ℕ) → length digits ≡ 0 → length behind ≡ 0 → number_of (digits ++ behind) ≡ 10 * number_of (digits ++ behind) + 0
last_of_none digits behind d b = ap number_of (ap (λ xs. xs ++ behind) (none_of digits d) ∙ none_of behind b) ∙ ap (λ xs. 10 * number_of xs + 0) (sym (none_of behind b) ∙ ap (λ xs. xs ++ behind) (sym (none_of digits d)))

-- ---- one digit less of two sums

pub sums_shorter : (A A' B B' a b x y : ℕ) → A ≡ 10 * A' + a → B ≡ 10 * B' + b → (x + a) % 10 ≡ (y + b) % 10 → (A' + (x + a) / 10 == B' + (y + b) / 10) ≡ (A + x == B + y)
sums_shorter A A' B B' a b x y is_a is_b same =
    sym (sum_step A' B' (x + a) (y + b) same)
    ∙ ap (λ n. n == 10 * B' + (y + b)) (let e : 10 * A' + (x + a) ≡ A + x = omega arith in e)
    ∙ ap (λ n. A + x == n) (let e : 10 * B' + (y + b) ≡ B + y = omega arith in e)

pub sums_differ : (A A' B B' a b x y : ℕ) → A ≡ 10 * A' + a → B ≡ 10 * B' + b → ((x + a) % 10 ≡ (y + b) % 10 → ⊥) → false ≡ (A + x == B + y)
sums_differ A A' B B' a b x y is_a is_b differs = no_test (A + x) (B + y) (λ is. sum_differs A' B' (x + a) (y + b) differs (let e : 10 * A' + (x + a) ≡ 10 * B' + (y + b) = omega arith in e))

-- ---- one zero less

pub zero_less : (N A A' d more z : ℕ) → N ≡ (A + more) * 10 ^ z → A ≡ 10 * A' + d → (more + d) % 10 ≡ 0 → N ≡ (A' + (more + d) / 10) * 10 ^ (z + 1)
zero_less N A A' d more z is last none =
    let s : A + more ≡ 10 * (A' + (more + d) / 10) = omega arith in
    let k : ℕ = A' + (more + d) / 10 in
    let t : (10 * k) * 10 ^ z ≡ 10 * (k * 10 ^ z) = mul_assoc 10 k (10 ^ z) in
    is ∙ ap (λ n. n * 10 ^ z) s ∙ t ∙ sym (ten_times k z) ∙ ap (λ n. k * 10 ^ n) (let e : suc z ≡ z + 1 = omega arith in e)

pub last_counts : (A A' d more : ℕ) → A ≡ 10 * A' + d → ((more + d) % 10 ≡ 0 → ⊥) → 0 < (A + more) % 10
last_counts A A' d more last counts = omega arith

pub zeros_fit : (z L L' more d total : ℕ) → z + (30 * L + more) ≤ total → more ≤ 23 → d ≤ 207 → (0 < L → L' + 1 ≡ L) → (L ≡ 0 → (d ≡ 0) × (L' ≡ 0)) → (L + more ≡ 0 → ⊥) → (more + d) % 10 ≡ 0 → z + 1 + (30 * L' + (more + d) / 10) ≤ total
zeros_fit z zero L' more d total fits few digit shorter none left tenfold = let e = none refl in let x = e.0 in let y = e.1 in omega arith
zeros_fit z (suc L) L' more d total fits few digit shorter none left tenfold = let e = shorter (omega arith) in omega arith

pub not_zero : (n : ℕ) → false ≡ (n == 0) → n ≡ 0 → ⊥
not_zero n differs is = let e = eq-eqb n 0 is in cc
