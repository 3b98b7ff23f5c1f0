-- Equal ids have one mark.
use Rattle.std.proofs.Common.{◌≡◌, ◌==◌, ◌&&◌, ◌⊎◌, ℕ, zero, suc, ◌+◌, ◌*◌, ◌/◌, ◌%◌, ◌^◌, ◌<◌, ◌≤◌, Bool, true, false, refl, ap, sym, ◌∙◌, arith, inl, inr, eq-eqb, eqb-true, if◌then◌else◌}
use Rattle.std.proofs.lemmas.Slice.Eq.{bytes_eq-Decides}
use Rattle.std.proofs.lemmas.Bool.{eqb-false}
use Rattle.conversation_reading.specs.declared.entry.WrittenId.{WrittenId}
use Rattle.conversation_reading.specs.declared.entry.WrittenId.TheVariants.{Null, Text, Number}
use Rattle.conversation_rules.specs.Amounts.{Amount, amount_of, same_amount, same_size, same_sign, same_id}
use Rattle.conversation_ids.specs.Marks.{most_marks, without_zeros_by, without_zeros, mark_of}
use Rattle.conversation_ids.proofs.Numbers.{ten_times}

by_test : (b : Bool) (x y : ℕ) → b ≡ true → (if b then x else y) ≡ x
by_test true x y is = refl
by_test false x y is = cc

by_no_test : (b : Bool) (x y : ℕ) → b ≡ false → (if b then x else y) ≡ y
by_no_test true x y is = cc
by_no_test false x y is = refl

-- one zero is taken off
tenth : (most n : ℕ) → n % 10 ≡ 0 → without_zeros_by (suc most) n ≡ without_zeros_by most (n / 10)
tenth most n zero_last = by_test (n % 10 == 0) (without_zeros_by most (n / 10)) n (eq-eqb (n % 10) 0 zero_last)

counts_by : (b : Bool) (n : ℕ) → ((n % 10 == 0) ≡ b) → (b ≡ true → n % 10 ≡ 0) → (b ≡ false → n % 10 ≡ 0 → ⊥) → (n % 10 ≡ 0) ⊎ (n % 10 ≡ 0 → ⊥)
counts_by true n is first other = inl (first refl)
counts_by false n is first other = inr (other refl)

-- the last digit is 0, or it isn't
counts : (n : ℕ) → (n % 10 ≡ 0) ⊎ (n % 10 ≡ 0 → ⊥)
counts n = counts_by (n % 10 == 0) n refl (λ is. eqb-true (n % 10) 0 is) (λ is. eqb-false (n % 10) 0 is)

stays : (most n : ℕ) → (n % 10 ≡ 0 → ⊥) → without_zeros_by (suc most) n ≡ n
stays most n last = elim (counts n) [
  | inl is ↦ absurd (last is)
  | inr apart ↦ by_no_test (n % 10 == 0) (without_zeros_by most (n / 10)) n (not_test (n % 10) 0 apart)
]
  where
    not_test : (a b : ℕ) → (a ≡ b → ⊥) → (a == b) ≡ false
    not_test a b apart = from (a == b) refl
      where
        from : (t : Bool) → (a == b) ≡ t → t ≡ false
        from true is = absurd (apart (eqb-true a b is))
        from false is = refl

zero_stays : (most : ℕ) → without_zeros_by most 0 ≡ 0
zero_stays zero = refl
zero_stays (suc most) = tenth most 0 refl ∙ zero_stays most

-- as often as there are digits is often enough
enough : (most more n : ℕ) → 0 < n → n ≤ most → n ≤ more → without_zeros_by most n ≡ without_zeros_by more n
enough zero more n some fits also = omega arith
enough (suc most) zero n some fits also = omega arith
enough (suc most) (suc more) n some fits also = elim (counts n) [
  | inl is ↦ tenth most n is ∙ enough most more (n / 10) (omega arith) (omega arith) (omega arith) ∙ sym (tenth more n is)
  | inr apart ↦ stays most n apart ∙ sym (stays more n apart)
]

tenfold : (n : ℕ) → without_zeros (10 * n) ≡ without_zeros n
tenfold zero = refl
tenfold (suc n) =
    let wide : 10 * suc n ≡ suc (9 + 10 * n) = omega arith in
    ap (λ most. without_zeros_by most (10 * suc n)) wide
    ∙ tenth (9 + 10 * n) (10 * suc n) (omega arith)
    ∙ ap (λ k. without_zeros_by (9 + 10 * n) k) (let e : 10 * suc n / 10 ≡ suc n = omega arith in e)
    ∙ enough (9 + 10 * n) (suc n) (suc n) (omega arith) (omega arith) (omega arith)

pub scaled : (n e : ℕ) → without_zeros (n * 10 ^ e) ≡ without_zeros n
scaled n zero = ap without_zeros (let e : n * 10 ^ 0 ≡ n = omega arith in e)
scaled n (suc e) = ap without_zeros (ten_times n e) ∙ tenfold (n * 10 ^ e) ∙ scaled n e

ends : (n : ℕ) → 0 < n % 10 → without_zeros n ≡ n
ends zero last = refl
ends (suc n) last = stays n (suc n) (λ is. omega arith)

-- a number whose zeros are taken off
pub is_without : (digits A z count : ℕ) → digits ≡ A * 10 ^ z → (0 < A % 10) ⊎ (count ≡ 0) → (count ≡ 0 → A ≡ 0) → without_zeros digits ≡ A
is_without digits A z count is (inl last) none = ap without_zeros is ∙ scaled A z ∙ ends A last
is_without digits A z count is (inr gone) none =
    let zero_is : A ≡ 0 = none gone in ap without_zeros is ∙ scaled A z ∙ ap without_zeros zero_is ∙ sym zero_is

-- ---- equal amounts

first_of : (a b : Bool) → (a && b) ≡ true → a ≡ true
first_of true b is = refl
first_of false b is = is

same_digits : (a b : Amount) → same_amount a b ≡ true → without_zeros a.digits ≡ without_zeros b.digits
same_digits a b same =
    let size : a.digits * 10 ^ (a.right + b.left) ≡ b.digits * 10 ^ (b.right + a.left) =
    eqb-true (a.digits * 10 ^ (a.right + b.left)) (b.digits * 10 ^ (b.right + a.left)) (first_of (same_size a b) _ same) in
    sym (scaled a.digits (a.right + b.left)) ∙ ap without_zeros size ∙ scaled b.digits (b.right + a.left)

pub one_mark : (a b : WrittenId) → same_id a b ≡ true → mark_of a ≡ mark_of b
one_mark Null Null same = refl
one_mark Null (Text t) same = cc
one_mark Null (Number n) same = cc
one_mark (Text s) Null same = cc
one_mark (Text s) (Text t) same = ap (λ x. mark_of (Text x)) ((bytes_eq-Decides s t).0 same)
one_mark (Text s) (Number n) same = cc
one_mark (Number m) Null same = cc
one_mark (Number m) (Text t) same = cc
one_mark (Number m) (Number n) same = ap (λ d. 2 ^ 65 + d % most_marks) (same_digits (amount_of m) (amount_of n) same)

-- ---- remainders

pub more_of : (n digit : ℕ) → (10 * (n % most_marks) + digit) % most_marks ≡ (10 * n + digit) % most_marks
more_of n digit = omega arith

pub sum_of : (n more : ℕ) → (n % most_marks + more) % most_marks ≡ (n + more) % most_marks
sum_of n more = omega arith
