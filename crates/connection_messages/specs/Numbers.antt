-- Whole numbers of JSON, by their texts.
use Rattle.std.specs.Prelude.{ℕ, ◌-◌, ◌^◌, ◌&&◌, ◌||◌, ◌==◌, nat_lt, nat_le, List, [], ◌∷◌, length, get_or, Bool, Option, Some, None, if◌then◌else◌, decimal, ℤ, pos, negsuc}
use Rattle.std.specs.Str.{bytes_eq}
use Rattle.std.specs.Str.Parse.{digits_value}

-- the number below 2^64 that the text is the decimal of
abbrev pub unsigned_of : List ℕ → Option ℕ
unsigned_of s = if nat_lt (digits_value 10 s) (2 ^ 64) && bytes_eq (decimal (digits_value 10 s)) s then Some (digits_value 10 s) else None

-- a 0 or a plus stands before more bytes
abbrev pub has_lead : List ℕ → Bool
has_lead s = nat_lt 1 (length s) && (get_or s 0 0 == 48 || get_or s 0 0 == 43)

-- the number of i64 below 0 of which this is the decimal without its minus; `negsuc n` is the number -(n + 1)
abbrev pub negated : Option ℕ → Option ℤ
negated None = None
negated (Some n) = if nat_lt 0 n && nat_le n (2 ^ 63) then Some (negsuc (n - 1)) else None

-- a minus and the decimal of a number from 1 on; `-0` is none
abbrev pub negative_of : List ℕ → Option ℤ
negative_of [] = None
negative_of (b ∷ digits) = if b == 45 then negated (unsigned_of digits) else None

-- a number of i64 that isn't below 0
abbrev pub small_of : Option ℕ → Option ℤ
small_of None = None
small_of (Some n) = if nat_lt n (2 ^ 63) then Some (pos n) else None

abbrev pub or_negative : Option ℤ → Option ℤ → Option ℤ
or_negative (Some z) other = Some z
or_negative None other = other

-- a whole number of i64, as the code of an error is
abbrev pub integer_of : List ℕ → Option ℤ
integer_of s = or_negative (negative_of s) (small_of (unsigned_of s))
