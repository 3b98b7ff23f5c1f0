-- A number for each id, by which it is found again: equal ids have one mark, and others mostly have another.
use Rattle.std.specs.Prelude.{ℕ, zero, suc, ◌+◌, ◌*◌, ◌/◌, ◌%◌, ◌^◌, ◌==◌, List, [], ◌∷◌, if◌then◌else◌}
use Rattle.conversation_reading.specs.declared.entry.WrittenId.{WrittenId}
use Rattle.conversation_reading.specs.declared.entry.WrittenId.TheVariants.{Null, Text, Number}
use Rattle.conversation_rules.specs.Amounts.{amount_of}

-- marks are remainders by 2^64 - 1
abbrev pub most_marks : ℕ
most_marks = 18446744073709551615

-- a number without the zeros at its end, of which it has at most so many
abbrev pub without_zeros_by : ℕ → ℕ → ℕ
without_zeros_by zero number = number
without_zeros_by (suc most) number = if number % 10 == 0 then without_zeros_by most (number / 10) else number

abbrev pub without_zeros : ℕ → ℕ
without_zeros number = without_zeros_by number number

-- that of a number's digits is the same, however often it is multiplied by ten
abbrev pub number_mark : List ℕ → ℕ
number_mark number = without_zeros (amount_of number).digits % most_marks

abbrev pub text_mark_behind : ℕ → List ℕ → ℕ
text_mark_behind mark [] = mark
text_mark_behind mark (byte ∷ bytes) = text_mark_behind ((mark * 1099511628211 + byte) % most_marks) bytes

abbrev pub null_mark : ℕ
null_mark = 0

abbrev pub mark_of : WrittenId → ℕ
mark_of Null = null_mark
mark_of (Text text) = 2 ^ 64 + text_mark_behind 1 text
mark_of (Number number) = 2 ^ 65 + number_mark number
