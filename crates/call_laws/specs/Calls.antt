-- What one side asks, and what the other answers.
use Rattle.std.specs.Prelude.{◌≡◌, ℕ, ◌+◌, List, [], ◌∷◌, ◌++◌, filter, map, flat_map, slice_get, Some, is_some}
use Rattle.message_ids.specs.declared.id.Id.{Id}
use Rattle.connection_messages.specs.ReadBack.{call_as_read, calls_as_read}
use Rattle.connection_messages.specs.declared.answer.Answer.{Answer}
use Rattle.connection_messages.specs.declared.call.Call.{Call}
use Rattle.connection_history.specs.History.{Happening, came, called, called_all, noticed, withdrew, answered, ended, History, stream, key_count, answer_to}
use Rattle.connection_history.specs.Stream.{calls_in, request_id}
use Rattle.connection_history.specs.Told.{calls_told}
use Rattle.connection_history.specs.declared.event.Event.{Event}
use Rattle.connection.specs.BackToBack.{Message, call, calls, notice, withdrawal, answer, answers}

-- ---- requests

-- the requests that this makes, as they come to the other side: their ids are their keys
abbrev pub requests_at : History → Happening → List Call
requests_at past (came o u) = []
requests_at past (called n o) = call_as_read (key_count past + 1) o ∷ []
requests_at past (called_all n os) = calls_in (calls_as_read (key_count past + 1) os)
requests_at past (noticed o) = []
requests_at past (withdrew by k) = []
requests_at past (answered n a) = []
requests_at past (ended close) = []

-- all requests that were made, in their order
abbrev pub requests_of : History → List Call
requests_of [] = []
requests_of (h ∷ past) = requests_of past ++ requests_at past h

-- the requests that are told
abbrev pub requests_told : List Event → List Call
requests_told told = filter (λ c. is_some c.id) (map (λ numbered. numbered.1) (calls_told told))

-- ---- answers

-- the answers in a message, each with the id of its request
abbrev pub answers_in : Message → List (Id × Answer)
answers_in (call key o) = []
answers_in (calls key os) = []
answers_in (notice o) = []
answers_in (withdrawal by key) = []
answers_in (answer id a) = (id, a) ∷ []
answers_in (answers all) = all

abbrev pub answers_said : List Message → List (Id × Answer)
answers_said said = flat_map answers_in said

-- this answer has gone out, with this id
abbrev pub IsSaid : Id → Answer → List Message → Type 0
IsSaid id given said = (place : ℕ) × (slice_get (answers_said said) place ≡ Some (id, given))

-- The host's answer to the request with this id.
pub record IsAnswered (id : Id) (history : History) (given : Answer) : Type 0 where
  pub number : ℕ
  pub request : request_id number (stream history) ≡ Some id
  pub response : answer_to number history ≡ Some (Some given)
