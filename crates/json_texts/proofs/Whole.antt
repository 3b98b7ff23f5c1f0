-- Digits alone are a number, with a minus before them too.
use Rattle.std.proofs.Common.{◌≡◌, ℕ, suc, ◌+◌, ◌-◌, ◌<◌, ◌≤◌, Bool, true, false, cond, ◌==◌, List, [], ◌∷◌, length, take, drop, get_or, Option, Some, None, IfSome, option_and_then, refl, sym, ap, ◌∙◌, subst, arith, eqb-true, get_or-take, get_or-drop}
use Rattle.std.proofs.lemmas.Bool.{ne_eqb, and_parts, leb-true}
use Rattle.std.proofs.lemmas.List.{drop_all}
use Rattle.std.proofs.lemmas.List.Folds.{length-prefix_len}
use Rattle.std.specs.List.{prefix_len}
use Rattle.std.specs.Char.{is_ascii_digit}
use Rattle.json.specs.Word.{head, after_digits, after_whole, after_fraction, after_exponent, after_number}
use Rattle.json.specs.Print.{IsNumber}
use Rattle.json_texts.specs.Standing.{HasNumber}
use Rattle.json_texts.proofs.Placed.{byte_stands, part_stands}

front_byte : (b : Bool) (x n : ℕ) (xs : List ℕ) → is_ascii_digit x ≡ b → prefix_len is_ascii_digit (take n xs) ≡ n
    → prefix_len is_ascii_digit (take (cond b (1 + n) 0) (x ∷ xs)) ≡ cond b (1 + n) 0
front_byte false x n xs e ih = refl
front_byte true x n xs e ih =
    let next : suc n ≡ 1 + n = omega arith in
    subst (λ k. prefix_len is_ascii_digit (take k (x ∷ xs)) ≡ k) next
    (ap (λ b. cond b (1 + prefix_len is_ascii_digit (take n xs)) 0) e ∙ omega (arith, ih))

-- a run of digits is digits throughout
pub run_is_digits : (xs : List ℕ) → prefix_len is_ascii_digit (take (prefix_len is_ascii_digit xs) xs) ≡ prefix_len is_ascii_digit xs
run_is_digits [] = refl
run_is_digits (x ∷ xs) = front_byte (is_ascii_digit x) x (prefix_len is_ascii_digit xs) xs refl (run_is_digits xs)

first_digit : (b : Bool) (d n m : ℕ) → is_ascii_digit d ≡ b → cond b (1 + n) 0 ≡ suc m → 48 ≤ d
first_digit true d n m is e = leb-true 48 d (and_parts _ _ is).0
first_digit false d n m is e = let f : 0 ≡ suc m = e in absurd (omega arith)

after_first : (z : Bool) (d : ℕ) (ds : List ℕ) → (z ≡ true → length ds ≡ 0) → prefix_len is_ascii_digit (d ∷ ds) ≡ length (d ∷ ds)
    → cond z (Some ds) (after_digits (d ∷ ds)) ≡ Some []
after_first true d [] alone all = refl
after_first true d (e ∷ ds) alone all = absurd (let f = alone refl in omega (arith, f))
after_first false d ds alone all = rw (all, ne_eqb (suc (length ds)) 0 (λ e. omega arith)) (ap Some (drop_all (length (d ∷ ds)) (d ∷ ds) (omega arith)))

abbrev AreDigits : List ℕ → Type 0
AreDigits ds = (prefix_len is_ascii_digit ds ≡ length ds) × (0 < length ds) × (get_or ds 0 0 ≡ 48 → length ds ≡ 1)

whole : (ds : List ℕ) → AreDigits ds → (after_whole ds ≡ Some []) × ((head ds == 45) ≡ false)
whole [] is = absurd (let f = is.1 in omega (arith, f))
whole (d ∷ ds) is =
    let low : 48 ≤ d = first_digit (is_ascii_digit d) d (prefix_len is_ascii_digit ds) (length ds) refl is.0 in (
      after_first (d == 48) d ds (λ e. let one = is.2 (eqb-true d 48 e) in omega (arith, one)) is.0,
      ne_eqb d 45 (λ e. omega arith),
    )

pub digits_are_number : (ds : List ℕ) → prefix_len is_ascii_digit ds ≡ length ds → 0 < length ds → (get_or ds 0 0 ≡ 48 → length ds ≡ 1) → IsNumber ds
unfolding after_number
digits_are_number ds all some alone =
    let w = whole ds (all, some, alone) in
    ap (λ o. option_and_then after_exponent (option_and_then after_fraction o)) (ap (λ b. after_whole (cond b (drop 1 ds) ds)) w.1 ∙ w.0)

pub minus_digits_are_number : (ds : List ℕ) → prefix_len is_ascii_digit ds ≡ length ds → 0 < length ds → (get_or ds 0 0 ≡ 48 → length ds ≡ 1) → IsNumber (45 ∷ ds)
unfolding after_number
minus_digits_are_number ds all some alone = ap (λ o. option_and_then after_exponent (option_and_then after_fraction o)) (whole ds (all, some, alone)).0

-- the digits from one place to the end of their run
pub run_is_number : (text : List ℕ) (from end : ℕ) → end ≡ from + prefix_len is_ascii_digit (drop from text) → (end ≡ from → ⊥) → (get_or text from 0 ≡ 48 → end ≡ from + 1)
    → IsNumber (take (end - from) (drop from text)) × IsNumber (45 ∷ take (end - from) (drop from text))
run_is_number text from end is some alone =
    let n = prefix_len is_ascii_digit (drop from text) in
    let size : end - from ≡ n = omega (arith, is) in
    let ds = take n (drop from text) in
    let long : length ds ≡ n = length-prefix_len is_ascii_digit (drop from text) in
    let all : prefix_len is_ascii_digit ds ≡ length ds = run_is_digits (drop from text) ∙ sym long in
    let first : get_or ds 0 0 ≡ get_or text from 0 =
    get_or-take n (drop from text) 0 0 (omega (arith, is, some)) ∙ get_or-drop from text 0 0 ∙ ap (λ k. get_or text k 0) (omega arith) in
    let lone : get_or ds 0 0 ≡ 48 → length ds ≡ 1 = λ e. let one = alone (sym first ∙ e) in omega (arith, one, is, long) in
    let positive : 0 < length ds = omega (arith, is, some, long) in
    subst (λ k. IsNumber (take k (drop from text)) × IsNumber (45 ∷ take k (drop from text))) (sym size) (digits_are_number ds all positive lone, minus_digits_are_number ds all positive lone)

pub signed_stands : (text : List ℕ) (from end : ℕ) → get_or text from 0 ≡ 45 → from + 1 < end → IsNumber (45 ∷ take (end - (from + 1)) (drop (from + 1) text)) → HasNumber text from end
signed_stands text from end minus below is = record {
  number = 45 ∷ take (end - (from + 1)) (drop (from + 1) text);
  is = is;
  stands = byte_stands text from 44 minus ∙ ap (λ l. 45 ∷ l) (part_stands text (from + 1) end (omega (arith, below)));
}

pub natural_stands : (text : List ℕ) (from end : ℕ) → from < end → IsNumber (take (end - from) (drop from text)) → HasNumber text from end
natural_stands text from end below is = record { number = take (end - from) (drop from text); is = is; stands = part_stands text from end (omega (arith, below)) }

pub natural_found : (text : List ℕ) (from : ℕ) (r : Option ℕ) → IfSome r (λ end. IsNumber (take (end - from) (drop from text))) → IfSome r (λ end. (from < end) × (end ≤ length text))
    → IfSome r (λ end. HasNumber text from end)
natural_found text from None is bounds = bounds
natural_found text from (Some end) is bounds = natural_stands text from end bounds.0 is

pub signed_found : (text : List ℕ) (from : ℕ) (r : Option ℕ) → get_or text from 0 ≡ 45 → IfSome r (λ end. IsNumber (45 ∷ take (end - (from + 1)) (drop (from + 1) text)))
    → IfSome r (λ end. (from + 1 < end) × (end ≤ length text)) → IfSome r (λ end. HasNumber text from end)
signed_found text from None minus is bounds = bounds
signed_found text from (Some end) minus is bounds = signed_stands text from end minus bounds.0 is
