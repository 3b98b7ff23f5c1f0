-- The decimal of a number is read as that number, and no other text is.
use Rattle.std.proofs.Common.{◌≡◌, ◌≢◌, ℕ, zero, suc, ◌<◌, ◌^◌, ◌&&◌, List, [], ◌∷◌, length, get_or, Bool, true, false, Option, Some, None, Result, Ok, Err, decimal, refl, sym, ap, subst, ◌∙◌, arith, if◌then◌else◌, ◌⊎◌, inl, inr, length-drop}
use Rattle.std.specs.Prelude.{nat_lt, ◌==◌}
use Rattle.std.specs.Result.{result_ok}
use Rattle.std.proofs.lemmas.Bool.{cases_Bool, eqb-true, eqb-false}
use Rattle.std.proofs.lemmas.Bool.Decides.{nat_tests}
use Rattle.std.proofs.lemmas.Fmt.{decimal_is_IsNumeral, parse-decimal, decimal-digits_value, first_decimal, decimal_digit}
use Rattle.std.proofs.lemmas.Slice.Eq.{bytes_eq-Decides}
use Rattle.std.proofs.lemmas.Str.Parse.{IsNumeralModel, numerals_by_value, tells_digits, parse_plain, parse_plus}
use Rattle.std.specs.Str.{bytes_eq}
use Rattle.std.specs.Str.Parse.{ParsesUnsigned, AllDigits, digits_value}
use Rattle.connection_messages.specs.Numbers.{unsigned_of, has_lead, negated, negative_of}

pub below_is_true : (m n : ℕ) → m < n → nat_lt m n ≡ true
below_is_true m n h = grind (arith, nat_tests)

pub unsigned_of-decimal : (n : ℕ) → n < 2 ^ 64 → unsigned_of (decimal n) ≡ Some n
unsigned_of-decimal n fits =
    let value : digits_value 10 (decimal n) ≡ n = (decimal_is_IsNumeral n fits).1 in
    let same : bytes_eq (decimal n) (decimal n) ≡ true = (bytes_eq-Decides (decimal n) (decimal n)).1 refl in
    rw (value, below_is_true n (2 ^ 64) fits, same)

-- a text that is read is the decimal of what is read
pub unsigned_of-is : (n : ℕ) (s : List ℕ) → unsigned_of s ≡ Some n → (s ≡ decimal n) × (n < 2 ^ 64)
unsigned_of-is n s = by_tests _ _ refl refl
  where
    by_tests : (small same : Bool) → nat_lt (digits_value 10 s) (2 ^ 64) ≡ small → bytes_eq (decimal (digits_value 10 s)) s ≡ same
        → (if small && same then Some (digits_value 10 s) else None) ≡ Some n → (s ≡ decimal n) × (n < 2 ^ 64)
    by_tests true true is_small is_same read =
        let value : digits_value 10 s ≡ n = cc in
        let whole : decimal (digits_value 10 s) ≡ s = (bytes_eq-Decides _ s).0 is_same in
        let bound : digits_value 10 s < 2 ^ 64 = grind (arith, nat_tests) in
        (sym whole ∙ ap decimal value, omega arith)
    by_tests true false is_small is_same read = cc
    by_tests false same is_small is_same read = cc

pub unsigned_of-none : (s : List ℕ) → ((n : ℕ) → s ≡ decimal n → n < 2 ^ 64 → ⊥) → unsigned_of s ≡ None
unsigned_of-none s other = by_result _ refl
  where
    by_result : (o : Option ℕ) → unsigned_of s ≡ o → unsigned_of s ≡ None
    by_result None read = read
    by_result (Some n) read = absurd (other n (unsigned_of-is n s read).0 (unsigned_of-is n s read).1)

-- ---- leads

abbrev Lead : List ℕ → Type 0
Lead s = (1 < length s) × ((get_or s 0 0 ≡ 48) ⊎ (get_or s 0 0 ≡ 43))

lead_of : (s : List ℕ) → has_lead s ≡ true → Lead s
lead_of s is = grind (arith, nat_tests)

has_lead-is : (s : List ℕ) → has_lead s ≡ false → 1 < length s → (get_or s 0 0 ≢ 48) × (get_or s 0 0 ≢ 43)
has_lead-is s is more = grind (arith, nat_tests)

-- no decimal has a lead
lead_of_decimal : (n : ℕ) → n < 2 ^ 64 → Lead (decimal n) → ⊥
lead_of_decimal zero small lead = let one : length (decimal 0) ≡ 1 = ap length (decimal_digit 0 (omega arith)) in omega (arith, lead.0, one)
lead_of_decimal (suc n) small lead =
    let first : 48 < get_or (decimal (suc n)) 0 0 = first_decimal (suc n) (omega arith) small in
    elim lead.1 [
      | inl zero_first ↦ omega (arith, first, zero_first)
      | inr plus_first ↦ omega (arith, first, plus_first)
    ]

pub unsigned_of-lead : (s : List ℕ) → has_lead s ≡ true → unsigned_of s ≡ None
unsigned_of-lead s is = unsigned_of-none s (λ n same small. lead_of_decimal n small (subst Lead same (lead_of s is)))

-- a text without a lead is read by `parse`
pub unsigned_of-parse : {E : Type 0} (s : List ℕ) (r : Result ℕ E) → ParsesUnsigned 64 10 s r → has_lead s ≡ false → result_ok r ≡ unsigned_of s
unsigned_of-parse s (Err e) parses none = sym (unsigned_of-none s (λ n is small. let read : Err e ≡ Ok n = parse-decimal 64 n s (Err e) small small is parses in cc))
unsigned_of-parse {E = E} s (Ok n) parses none =
    elim (cases_Bool (get_or s 0 0 == 43)) [
      | inl plus ↦
          let read = parse_plus own {E = E} 64 s (Ok n) parses (eqb-true (get_or s 0 0) 43 plus) in
          absurd ((has_lead-is s none (omega (arith, length-drop 1 s, read.0.1))).1 (eqb-true (get_or s 0 0) 43 plus))
      | inr none_first ↦
          let read = parse_plain own {E = E} 64 s (Ok n) parses (eqb-false (get_or s 0 0) 43 none_first) in
          let written : decimal (digits_value 10 s) ≡ s = decimal-digits_value own s read.0.0 read.0.1 (single s none read.0.1) read.0.2 in
          ap Some read.1 ∙ sym (unsigned_of-decimal (digits_value 10 s) read.0.2) ∙ ap unsigned_of written
    ]
  where
    own : IsNumeralModel (AllDigits 10) (digits_value 10)
    own = numerals_by_value _ tells_digits

    single : (t : List ℕ) → has_lead t ≡ false → 0 < length t → get_or t 0 0 ≡ 48 → length t ≡ 1
    single t is some first = grind (arith, nat_tests)

-- a text without a minus is no number below 0
pub negative_of-none : (s : List ℕ) → ((rest : List ℕ) → s ≡ 45 ∷ rest → ⊥) → None ≡ negative_of s
negative_of-none [] other = refl
negative_of-none (b ∷ digits) other =
    elim (cases_Bool (b == 45)) [
      | inl minus ↦ absurd (other digits (ap (λ x. x ∷ digits) (eqb-true b 45 minus)))
      | inr none ↦ ap (λ t. if t then negated (unsigned_of digits) else None) (sym none)
    ]
