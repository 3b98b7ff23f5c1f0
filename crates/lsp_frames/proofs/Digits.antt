-- Digits of a length, one more at a time.
use Rattle.std.proofs.Common.{◌≡◌, ℕ, ◌+◌, ◌*◌, ◌-◌, ◌<◌, ◌≤◌, ◌^◌, true, false, List, length, take, get_or, arith, add-one, None}
use Rattle.std.proofs.Math.Nat.{pow-suc}
use Rattle.std.specs.List.{list_all}
use Rattle.std.specs.Char.{is_ascii_digit, digit_value}
use Rattle.std.specs.Str.Parse.{digits_value}
use Rattle.std.proofs.lemmas.Int.Digits.{digits_value_more}
use Rattle.std.proofs.lemmas.List.Folds.{list_all_more}
use Rattle.std.proofs.lemmas.Grind.{common_steps}
use Rattle.lsp_frames.specs.Fields.{length_of}

-- a digit's value
pub value_of_digit : (c : ℕ) → is_ascii_digit c ≡ true → (digit_value c ≡ c - 48) × (48 ≤ c) × (c < 58)
value_of_digit c h = grind (arith, common_steps)

pub number_more : (xs : List ℕ) (i n d : ℕ) → i < length xs → is_ascii_digit (get_or xs i 0) ≡ true → n ≡ digits_value 10 (take i xs) → d ≡ get_or xs i 0 - 48 → n * 10 + d ≡ digits_value 10 (take (i + 1) xs)
number_more xs i n d h digit e f = grind (arith, digits_value_more 10 xs i h, value_of_digit (get_or xs i 0) digit)

pub small_more : (i n d : ℕ) → n < 10 ^ i → d < 10 → n * 10 + d < 10 ^ (i + 1)
small_more i n d h k = rw (add-one, pow-suc) (omega arith)

pub digits_more : (xs : List ℕ) (i : ℕ) → i < length xs → list_all is_ascii_digit (take i xs) ≡ true → is_ascii_digit (get_or xs i 0) ≡ true → list_all is_ascii_digit (take (i + 1) xs) ≡ true
digits_more xs i h a d = rw (list_all_more is_ascii_digit xs i 0 h, a, d)

pub no_length : (value : List ℕ) → list_all is_ascii_digit value ≡ false → length_of value ≡ None
unfolding length_of
no_length value h = grind (arith, common_steps, h)
