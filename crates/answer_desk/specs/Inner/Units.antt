-- Which numbers waiting units have, and how many of their parts are known to be finished.
use Rattle.std.specs.Prelude.{◌==◌, ℕ, ◌+◌, ◌++◌, ◌&&◌, List, [], ◌∷◌, Option, Bool, nat_le, take, slice_set}
use Rattle.std.specs.List.{list_all}
use Rattle.answer_desk.specs.declared.waiting_unit.Due.{Due}
use Rattle.answer_desk.specs.declared.waiting_unit.Due.TheVariants.{ParseError, InvalidRequest, Nothing, Answer}
use Rattle.open_numbers.specs.declared.kept.Kept.{Kept}
use Rattle.answer_desk.specs.declared.waiting_unit.WaitingUnit.{WaitingUnit}
use Rattle.open_numbers.specs.Kept.{kept_at, without_answer}
use Rattle.answer_desk.specs.Waiting.{Waiting, is_finished}

-- the numbers of the requests
abbrev pub request_of : Due → List ℕ
request_of ParseError = []
request_of InvalidRequest = []
request_of Nothing = []
request_of (Answer number) = number ∷ []

abbrev pub requests_in : List Due → List ℕ
requests_in [] = []
requests_in (due ∷ dues) = request_of due ++ requests_in dues

abbrev pub requests_of : List WaitingUnit → List ℕ
requests_of [] = []
requests_of (unit ∷ units) = requests_in unit.dues ++ requests_of units

-- the numbers ascend from `low` on, and are below `high`
abbrev pub ascends : ℕ → ℕ → List ℕ → Bool
ascends low high [] = nat_le low high
ascends low high (number ∷ numbers) = nat_le low number && ascends (number + 1) high numbers

-- the first `count` parts of the first unit are finished; where there is no unit there are none
abbrev pub front_finished : ℕ → List Waiting → Bool
front_finished count [] = count == 0
front_finished count (unit ∷ units) = list_all is_finished (take count unit.parts)

-- the numbers once the answers of these were released
abbrev pub without_answers : List ℕ → List (Option Kept) → List (Option Kept)
without_answers [] kept = kept
without_answers (number ∷ numbers) kept = without_answers numbers (slice_set kept number (without_answer (kept_at kept number)))
