-- The parts of a number.
use Rattle.std.specs.Prelude.{ℕ, ◌+◌, ◌&&◌, ◌||◌, Bool, List, ◌++◌, length, if◌then◌else◌}
use Rattle.conversation_reading.specs.Numbers.{number_of}
use Rattle.conversation_rules.specs.Amounts.{Amount, moves_of}

-- the value of a number with these digits before its point and behind it, and this power
abbrev pub amount_of_parts : Bool → List ℕ → List ℕ → List ℕ → Amount
amount_of_parts minus before fraction power = record { minus = minus; digits = number_of (before ++ fraction); right = (moves_of power).0; left = length fraction + (moves_of power).1 }

-- zero has no sign, and no places
abbrev pub same_value : Bool → Bool → Bool → Bool → Bool
same_value a_is_zero b_is_zero same_sign same_size = if a_is_zero || b_is_zero then a_is_zero && b_is_zero else same_sign && same_size
