-- The whole number that a number of JSON is by its value.
use Rattle.std.specs.Prelude.{ℕ, ◌-◌, ◌*◌, ◌^◌, ◌==◌, ◌&&◌, not, nat_lt, List, [], ◌∷◌, ◌++◌, length, take, position, Option, Some, None, option_map, Bool, if◌then◌else◌}
use Rattle.std.specs.Str.Parse.{starts_with_minus}
use Rattle.conversation_reading.specs.Numbers.{parts_at, is_mark, is_point, number_of, without_minus, is_whole}
use Rattle.conversation_reading.specs.declared.whole.Whole.{Whole}

-- what the digits before the point write, once it is moved to the right over the fraction, with a 0 for each that isn't there
abbrev pub moved_right : List ℕ → List ℕ → ℕ → ℕ
moved_right before fraction places = number_of (before ++ take places fraction) * 10 ^ (places - length fraction)

-- or to the left
abbrev pub moved_left : List ℕ → ℕ → ℕ
moved_left before places = number_of (take (length before - places) before)

abbrev pub size_moved : List ℕ → List ℕ → List ℕ → ℕ
size_moved before fraction [] = number_of before
size_moved before fraction (sign ∷ power) =
    if sign == 45 then moved_left before (number_of power)
    else (if sign == 43 then moved_right before fraction (number_of power) else moved_right before fraction (number_of (sign ∷ power)))

abbrev pub size_with : List ℕ × List ℕ → List ℕ → ℕ
size_with parts power = size_moved (without_minus parts.0) parts.1 power

abbrev pub size_of_parts : List ℕ × List ℕ → ℕ
size_of_parts parts = size_with (parts_at parts.0 (position is_point parts.0)) parts.1

-- of a number that is whole, its size without its sign
abbrev pub size_of : List ℕ → ℕ
size_of number = size_of_parts (parts_at number (position is_mark number))

-- 0 has no sign
abbrev pub whole_with : Bool → ℕ → Whole
whole_with minus size = record { minus = minus && not (size == 0); size = size }

abbrev pub if_64_bits : ℕ → Option ℕ
if_64_bits size = if nat_lt size (2 ^ 64) then Some size else None

-- a number that is whole, and whose size is below 2^64
abbrev pub whole_of : List ℕ → Option Whole
whole_of number = if is_whole number then option_map (whole_with (starts_with_minus number)) (if_64_bits (size_of number)) else None
