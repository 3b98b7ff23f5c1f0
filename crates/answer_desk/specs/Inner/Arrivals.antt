-- What a unit that arrives brings to the desk.
use Rattle.std.specs.Prelude.{ℕ, ◌+◌, ◌++◌, List, [], ◌∷◌, Option, Some, None, length}
use Rattle.message_ids.specs.declared.id.Id.{Id}
use Rattle.answer_desk.specs.declared.waiting_unit.Due.{Due}
use Rattle.answer_desk.specs.declared.waiting_unit.Due.TheVariants.{ParseError, InvalidRequest, Nothing, Answer}
use Rattle.open_numbers.specs.declared.kept.Kept.{Kept}
use Rattle.open_numbers.specs.declared.kept.Kept.TheVariants.{Open}
use Rattle.answer_desk.specs.declared.shape.Place.{Place}
use Rattle.answer_desk.specs.declared.shape.Place.TheVariants.{Unreadable, Invalid, Silent, Numbered}
use Rattle.open_numbers.specs.OpenCalls.{new_number}

-- what is kept for the call of a place, if it is one
abbrev pub calls_of_place : Place → List (Option Kept)
calls_of_place Unreadable = []
calls_of_place Invalid = []
calls_of_place Silent = []
calls_of_place (Numbered id most) = Some (Open (new_number id most)) ∷ []

abbrev pub calls_of : List Place → List (Option Kept)
calls_of [] = []
calls_of (place ∷ places) = calls_of_place place ++ calls_of places

abbrev pub due_of_call : ℕ → Option Id → Due
due_of_call number None = Nothing
due_of_call number (Some id) = Answer number

abbrev pub due_of_place : ℕ → Place → Due
due_of_place number Unreadable = ParseError
due_of_place number Invalid = InvalidRequest
due_of_place number Silent = Nothing
due_of_place number (Numbered id most) = due_of_call number id

abbrev pub dues_of : ℕ → List Place → List Due
dues_of number [] = []
dues_of number (place ∷ places) = due_of_place number place ∷ dues_of (number + length (calls_of_place place)) places
