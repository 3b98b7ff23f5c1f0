-- How many numbers a cancel can reach yet.
use Rattle.std.specs.Prelude.{ℕ, ◌+◌, List, [], ◌∷◌, Option, if◌then◌else◌}
use Rattle.message_ids.specs.declared.id.Id.{Id}
use Rattle.open_numbers.specs.OpenCalls.{is_in_reach}
use Rattle.open_numbers.specs.declared.open_call.OpenCall.{OpenCall}

abbrev pub count_in_reach : Id → List (Option OpenCall) → ℕ
count_in_reach id [] = 0
count_in_reach id (number ∷ numbers) = if is_in_reach id number then count_in_reach id numbers + 1 else count_in_reach id numbers
