-- The decimal digits of a number are a plain whole number of that size, and behind a minus one below 0.
use Rattle.std.proofs.Common.{◌≡◌, ◌==◌, ◌&&◌, not, ℕ, suc, ◌+◌, ◌*◌, ◌<◌, ◌≤◌, ◌^◌, nat_le, true, false, List, [], ◌∷◌, None, length, refl, sym, ap, ◌∙◌, arith, decimal, position, append-nil, if◌then◌else◌}
use Rattle.std.proofs.lemmas.Bool.{lt-ltb, false_from_ne_true}
use Rattle.std.proofs.lemmas.Bool.Decides.{nat_tests}
use Rattle.std.proofs.lemmas.Slice.Eq.{bytes_eq-Decides}
use Rattle.std.proofs.lemmas.Fmt.{decimal_is_IsNumeral}
use Rattle.std.proofs.lemmas.Grind.{common_steps}
use Rattle.std.specs.Char.{digit_value}
use Rattle.std.specs.Option.{is_none}
use Rattle.std.specs.Prelude.{codes}
use Rattle.std.specs.Str.{bytes_eq}
use Rattle.std.specs.Str.Parse.{AllDigits, digits_value_after, starts_with_minus}
use Rattle.conversation_reading.specs.Numbers.{parts_at, is_mark, is_point, is_whole, number_after, number_of, without_minus, digit_of}
use Rattle.conversation_reading.specs.Wholes.{size_of, size_of_parts, size_with}
use Rattle.conversation_rules.specs.Amounts.{amount_of, amount_in, amount_with, fits_64_bits, is_plain}
use Rattle.judge_laws.proofs.Failures.{none_among, passed_by, not_this, no_mark, no_point, whole_by}

-- ---- what the digits count

digit_same : (c : ℕ) → digit_value c < 10 → digit_value c ≡ digit_of c
digit_same c small = grind (arith, common_steps)

pub after_same : (n : ℕ) (cs : List ℕ) → AllDigits 10 cs → number_after n cs ≡ digits_value_after 10 n cs
after_same n [] digits = refl
after_same n (c ∷ cs) digits =
    let same = digit_same c digits.0 in
    let next : 10 * n + digit_of c ≡ n * 10 + digit_value c = omega (arith, same) in
    ap (λ m. number_after m cs) next ∙ after_same (n * 10 + digit_value c) cs digits.1

pub number_of-decimal : (n : ℕ) → n < 2 ^ 64 → number_of (decimal n) ≡ n
number_of-decimal n small =
    let numeral = decimal_is_IsNumeral n small in
    after_same 0 (decimal n) numeral.0.1 ∙ numeral.1

-- ---- no sign, no point and no power

pub no_minus : digit_value 45 < 10 → ⊥
no_minus lt = omega arith

unsigned : (cs : List ℕ) → AllDigits 10 cs → without_minus cs ≡ cs
unsigned [] digits = refl
unsigned (c ∷ cs) digits = ap (λ b. if b then cs else c ∷ cs) (not_this c 45 digits.0 no_minus)

not_minus : (cs : List ℕ) → AllDigits 10 cs → 0 < length cs → starts_with_minus cs ≡ false
not_minus [] digits some = absurd (omega (arith, some))
not_minus (c ∷ cs) digits some = not_this c 45 digits.0 no_minus

first_differs : (c other : ℕ) (cs others : List ℕ) → (c == other) ≡ false → bytes_eq (c ∷ cs) (other ∷ others) ≡ false
first_differs c other cs others is = ap (λ b. b && bytes_eq cs others) is

not_minus_zero : (cs : List ℕ) → AllDigits 10 cs → bytes_eq cs (codes "-0") ≡ false
not_minus_zero [] digits = refl
not_minus_zero (c ∷ cs) digits = first_differs c 45 cs (codes "0") (not_this c 45 digits.0 no_minus)

module _ (n : ℕ) (small : n < 2 ^ 64) where
  digits : AllDigits 10 (decimal n)
  digits = (decimal_is_IsNumeral n small).0.1

  marks : position is_mark (decimal n) ≡ None
  marks = none_among is_mark no_mark (decimal n) digits

  points : position is_point (decimal n) ≡ None
  points = none_among is_point no_point (decimal n) digits

  pub whole : is_whole (decimal n) ≡ true
  whole = whole_by (decimal n) marks points

  pub unsigned_key : starts_with_minus (decimal n) ≡ false
  unsigned_key = not_minus (decimal n) digits (decimal_is_IsNumeral n small).0.0

  -- its size
  pub size : size_of (decimal n) ≡ n
  size =
      ap (λ o. size_of_parts (parts_at (decimal n) o)) marks ∙ ap (λ o. size_with (parts_at (decimal n) o) []) points
      ∙ ap number_of (unsigned (decimal n) digits) ∙ number_of-decimal n small

  -- its value
  pub amount : amount_of (decimal n) ≡ record { minus = false; digits = n; right = 0; left = 0 }
  amount =
      ap (λ o. amount_in (starts_with_minus (decimal n)) (parts_at (decimal n) o)) marks
      ∙ ap (λ o. amount_with (starts_with_minus (decimal n)) (parts_at (decimal n) o) (0, 0)) points
      ∙ ap (λ b. amount_with b (decimal n, []) (0, 0)) (not_minus (decimal n) digits (decimal_is_IsNumeral n small).0.0)
      ∙ ap (λ cs. record { minus = false; digits = number_of cs; right = 0; left = 0 }) (append-nil (without_minus (decimal n)) ∙ unsigned (decimal n) digits)
      ∙ ap (λ k. record { minus = false; digits = k; right = 0; left = 0 }) (number_of-decimal n small)

  pub plain : is_plain (decimal n) ≡ true
  plain =
      ap (λ o. is_none o && is_none (position is_point (decimal n)) && not (bytes_eq (decimal n) (codes "-0")) && fits_64_bits (amount_of (decimal n))) marks
      ∙ ap (λ o. is_none o && not (bytes_eq (decimal n) (codes "-0")) && fits_64_bits (amount_of (decimal n))) points
      ∙ ap (λ b. not b && fits_64_bits (amount_of (decimal n))) (not_minus_zero (decimal n) digits)
      ∙ ap fits_64_bits amount
      ∙ lt-ltb n (2 ^ 64) small

-- ---- below 0

at_most_true : (a b : ℕ) → a ≤ b → nat_le a b ≡ true
at_most_true a b le = grind (arith, nat_tests)

module _ (n : ℕ) (small : n < 2 ^ 63) where
  few : suc n < 2 ^ 64
  few = omega (arith, small)

  below_digits : AllDigits 10 (decimal (suc n))
  below_digits = digits (suc n) few

  abbrev minus_text : List ℕ
  minus_text = 45 ∷ decimal (suc n)

  below_marks : position is_mark minus_text ≡ None
  below_marks = passed_by is_mark 45 (decimal (suc n)) refl (none_among is_mark no_mark (decimal (suc n)) below_digits)

  below_points : position is_point minus_text ≡ None
  below_points = passed_by is_point 45 (decimal (suc n)) refl (none_among is_point no_point (decimal (suc n)) below_digits)

  pub below_amount : amount_of minus_text ≡ record { minus = true; digits = suc n; right = 0; left = 0 }
  below_amount =
      ap (λ o. amount_in (starts_with_minus minus_text) (parts_at minus_text o)) below_marks
      ∙ ap (λ o. amount_with true (parts_at minus_text o) (0, 0)) below_points
      ∙ ap (λ cs. record { minus = true; digits = number_of cs; right = 0; left = 0 }) (append-nil (decimal (suc n)))
      ∙ ap (λ k. record { minus = true; digits = k; right = 0; left = 0 }) (number_of-decimal (suc n) few)

  not_zero : decimal (suc n) ≡ codes "0" → ⊥
  not_zero is = let none : suc n ≡ 0 = sym (number_of-decimal (suc n) few) ∙ ap number_of is in omega (arith, none)

  other_than_zero : bytes_eq (decimal (suc n)) (codes "0") ≡ false
  other_than_zero = false_from_ne_true (bytes_eq (decimal (suc n)) (codes "0")) (λ same. not_zero ((bytes_eq-Decides (decimal (suc n)) (codes "0")).0 same))

  pub below_plain : is_plain minus_text ≡ true
  below_plain =
      ap (λ o. is_none o && is_none (position is_point minus_text) && not (bytes_eq minus_text (codes "-0")) && fits_64_bits (amount_of minus_text)) below_marks
      ∙ ap (λ o. is_none o && not (bytes_eq minus_text (codes "-0")) && fits_64_bits (amount_of minus_text)) below_points
      ∙ ap (λ b. not b && fits_64_bits (amount_of minus_text)) other_than_zero
      ∙ ap fits_64_bits below_amount
      ∙ at_most_true (suc n) (2 ^ 63) (omega (arith, small))
