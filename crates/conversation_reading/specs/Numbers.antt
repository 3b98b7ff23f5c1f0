-- Whether a number of JSON is whole by its value, as 1.0 and 10e-1 are.
use Rattle.std.specs.Prelude.{ℕ, ◌+◌, ◌-◌, ◌*◌, ◌==◌, ◌&&◌, ◌||◌, Bool, List, [], ◌∷◌, length, take, drop, Option, Some, None, position, if◌then◌else◌}
use Rattle.std.specs.List.{list_all}

-- what stands before the byte at a place, and what behind it: all and nothing, where there is no such place
abbrev pub parts_at : List ℕ → Option ℕ → List ℕ × List ℕ
parts_at s None = (s, [])
parts_at s (Some place) = (take place s, drop (place + 1) s)

-- `e` or `E`, before the power of ten
abbrev pub is_mark : ℕ → Bool
is_mark b = b == 101 || b == 69

abbrev pub is_point : ℕ → Bool
is_point b = b == 46

abbrev pub are_zeros : List ℕ → Bool
are_zeros digits = list_all (λ b. b == 48) digits

-- what a digit counts
abbrev pub digit_of : ℕ → ℕ
digit_of b = b - 48

-- the number that digits write, behind those of another
abbrev pub number_after : ℕ → List ℕ → ℕ
number_after n [] = n
number_after n (digit ∷ digits) = number_after (10 * n + digit_of digit) digits

abbrev pub number_of : List ℕ → ℕ
number_of digits = number_after 0 digits

abbrev pub without_minus : List ℕ → List ℕ
without_minus [] = []
without_minus (b ∷ digits) = if b == 45 then digits else b ∷ digits

-- the last digits, so many of them
abbrev pub last_of : ℕ → List ℕ → List ℕ
last_of count digits = drop (length digits - count) digits

-- The point moves by the power, and all digits that stand behind it then are 0: to the right over the first digits of the
-- fraction, or to the left over the last digits before it.
abbrev pub is_whole_moved : List ℕ → List ℕ → List ℕ → Bool
is_whole_moved before fraction [] = are_zeros fraction
is_whole_moved before fraction (sign ∷ power) =
    if sign == 45 then are_zeros fraction && are_zeros (last_of (number_of power) before)
    else (if sign == 43 then are_zeros (drop (number_of power) fraction) else are_zeros (drop (number_of (sign ∷ power)) fraction))

abbrev pub is_whole_with : List ℕ × List ℕ → List ℕ → Bool
is_whole_with parts power = is_whole_moved (without_minus parts.0) parts.1 power

abbrev pub is_whole_of : List ℕ × List ℕ → Bool
is_whole_of parts = is_whole_with (parts_at parts.0 (position is_point parts.0)) parts.1

abbrev pub is_whole : List ℕ → Bool
is_whole number = is_whole_of (parts_at number (position is_mark number))
