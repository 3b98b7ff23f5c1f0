-- How a desk's view shows what it keeps of numbers, and the units that wait.
use Rattle.std.specs.Prelude.{ℕ, List, Option, Some, None, map, slice_index_or}
use Rattle.answer_desk.specs.declared.waiting_unit.Due.{Due}
use Rattle.answer_desk.specs.declared.waiting_unit.Due.TheVariants.{ParseError, InvalidRequest, Nothing, Answer}
use Rattle.open_numbers.specs.declared.kept.Kept.{Kept}
use Rattle.open_numbers.specs.declared.kept.Kept.TheVariants.{Open, Answered}
use Rattle.open_numbers.specs.declared.open_call.OpenCall.{OpenCall}
use Rattle.answer_desk.specs.declared.waiting_unit.WaitingUnit.{WaitingUnit}
use Rattle.open_numbers.specs.Kept.{kept_at}
use Rattle.answer_desk.specs.Places.{call_part}
use Rattle.answer_desk.specs.Waiting.{Part, unreadable, invalid, silent, request, Waiting}

-- a request by what stands for its number
abbrev pub request_part : ℕ → Option Kept → Part
request_part number (Some (Open n)) = call_part number n.id
request_part number (Some (Answered id reply)) = request number id (Some reply)
request_part number None = silent

abbrev pub part_of : List (Option Kept) → Due → Part
part_of numbers ParseError = unreadable
part_of numbers InvalidRequest = invalid
part_of numbers Nothing = silent
part_of numbers (Answer number) = request_part number (kept_at numbers number)

abbrev pub waiting_of : List (Option Kept) → WaitingUnit → Waiting
waiting_of numbers unit = record { kind = unit.kind; parts = map (part_of numbers) unit.dues }
