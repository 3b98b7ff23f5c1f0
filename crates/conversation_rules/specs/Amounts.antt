-- Numbers by their value, however they are written, and ids that are equal.
use Rattle.std.specs.Prelude.{ℕ, ◌+◌, ◌*◌, ◌^◌, ◌==◌, ◌&&◌, ◌||◌, not, nat_le, nat_lt, List, [], ◌∷◌, ◌++◌, length, position, Bool, true, false, if◌then◌else◌, codes}
use Rattle.std.specs.Option.{is_none}
use Rattle.std.specs.Str.{bytes_eq}
use Rattle.std.specs.Str.Parse.{starts_with_minus}
use Rattle.conversation_reading.specs.Numbers.{parts_at, is_mark, is_point, number_of, without_minus}
use Rattle.conversation_reading.specs.declared.entry.WrittenId.{WrittenId}
use Rattle.conversation_reading.specs.declared.entry.WrittenId.TheVariants.{Null, Text, Number}

-- digits, times ten as often as the point moves right, divided by ten as often as it moves left
pub record Amount : Type 0 where
  pub minus : Bool
  pub digits : ℕ
  pub right : ℕ
  pub left : ℕ

-- how far a power moves the point to the right, and to the left
abbrev pub moves_of : List ℕ → ℕ × ℕ
moves_of [] = (0, 0)
moves_of (sign ∷ digits) = if sign == 45 then (0, number_of digits) else (if sign == 43 then (number_of digits, 0) else (number_of (sign ∷ digits), 0))

abbrev pub amount_with : Bool → List ℕ × List ℕ → ℕ × ℕ → Amount
amount_with minus parts moves = record { minus = minus; digits = number_of (without_minus parts.0 ++ parts.1); right = moves.0; left = length parts.1 + moves.1 }

abbrev pub amount_in : Bool → List ℕ × List ℕ → Amount
amount_in minus parts = amount_with minus (parts_at parts.0 (position is_point parts.0)) (moves_of parts.1)

-- the value of a number of JSON
abbrev pub amount_of : List ℕ → Amount
amount_of number = amount_in (starts_with_minus number) (parts_at number (position is_mark number))

abbrev pub same_sign : Bool → Bool → Bool
same_sign true b = b
same_sign false b = not b

-- both sides of the equation, without a division; 0 has no sign
abbrev pub same_size : Amount → Amount → Bool
same_size a b = a.digits * 10 ^ (a.right + b.left) == b.digits * 10 ^ (b.right + a.left)

abbrev pub same_amount : Amount → Amount → Bool
same_amount a b = same_size a b && (same_sign a.minus b.minus || a.digits == 0)

-- from -most to -least
abbrev pub is_below_zero : ℕ → ℕ → Amount → Bool
is_below_zero least most a = a.minus && nat_le (least * 10 ^ a.left) (a.digits * 10 ^ a.right) && nat_le (a.digits * 10 ^ a.right) (most * 10 ^ a.left)

-- within 64 bits, signed or not
abbrev pub fits_64_bits : Amount → Bool
fits_64_bits a = if a.minus then nat_le a.digits (2 ^ 63) else nat_lt a.digits (2 ^ 64)

-- a number that is written as a whole one of 64 bits: without a fraction or a power, and not -0
abbrev pub is_plain : List ℕ → Bool
is_plain number = is_none (position is_mark number) && is_none (position is_point number) && not (bytes_eq number (codes "-0")) && fits_64_bits (amount_of number)

-- ids are equal as values: a number isn't its text
abbrev pub same_id : WrittenId → WrittenId → Bool
same_id Null Null = true
same_id (Text a) (Text b) = bytes_eq a b
same_id (Number a) (Number b) = same_amount (amount_of a) (amount_of b)
same_id _ _ = false

abbrev pub is_odd : WrittenId → Bool
is_odd (Number number) = not (is_plain number)
is_odd _ = false

abbrev pub is_null : WrittenId → Bool
is_null Null = true
is_null _ = false
