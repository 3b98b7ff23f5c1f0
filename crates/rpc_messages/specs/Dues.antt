-- The answers that are due to units (JSON-RPC 2.0, sections 5 and 6).
use Rattle.std.specs.Prelude.{ℕ, ◌+◌, List, [], ◌∷◌, ◌++◌, map, Option, Some, None}
use Rattle.message_ids.specs.declared.id.Id.{Id}
use Rattle.message_ids.specs.declared.id.Id.TheVariants.{Null}
use Rattle.rpc_messages.specs.declared.kind.Kind.{Kind}
use Rattle.rpc_messages.specs.declared.kind.Kind.TheVariants.{Single, Batch}
use Rattle.rpc_messages.specs.declared.reply.Reply.{Reply}
use Rattle.rpc_messages.specs.declared.reply.Reply.TheVariants.{Standard}
use Rattle.message_ids.specs.declared.standard.Standard.TheVariants.{ParseError, InvalidRequest}
use Rattle.rpc_messages.specs.declared.unit_answer.Answer.{Answer}
use Rattle.rpc_messages.specs.declared.unit_answer.Answer.TheVariants as answer
use Rattle.rpc_messages.specs.Entry.{SeenEntry, call, reply, stray, invalid}
use Rattle.rpc_messages.specs.Unit.{SeenUnit, unreadable, single, batch}
use Rattle.rpc_messages.specs.Numbering.{numbers_of, unit_numbers}
use Rattle.rpc_messages.specs.Texts.{answer_text_of, batch_text_of}

-- An answer that is due: the numbers of the requests that it answers, and its text.
pub record Due : Type 0 where
  pub requests : List ℕ
  pub text : List ℕ

-- An entry's answer: the reply to a request, under its id. What is no request is answered with an error under the id null.
pub record SeenAnswer : Type 0 where
  pub id : Id
  pub reply : Reply

-- what an `Answer` holds, wherever that lies in memory
abbrev pub answer_seen : Answer → SeenAnswer
answer_seen (answer.Reply id given) = record { id = id.now; reply = given.now }
answer_seen (answer.Error standard) = record { id = Null; reply = Standard standard }

abbrev pub text_of : SeenAnswer → List ℕ
text_of a = answer_text_of a.id a.reply

-- A unit is answered with one text, of the answers of its entries in their order: the answer of a single entry as it is, those of a
-- batch as one array. Where no entry has an answer there is none.
abbrev pub unit_text : Kind → List SeenAnswer → Option (List ℕ)
unit_text kind [] = None
unit_text Single (a ∷ answers) = Some (text_of a)
unit_text Batch (a ∷ answers) = Some (batch_text_of (map text_of (a ∷ answers)))

-- The answer of the call with this number, where it is a request; a notification has none.
abbrev pub call_answers : (ℕ → Reply) → ℕ → Option Id → List SeenAnswer
call_answers choice n None = []
call_answers choice n (Some id) = record { id = id; reply = choice n } ∷ []

-- The answer of an entry, where the next call has this number: an invalid entry is answered under the id null, and replies aren't answered.
abbrev pub entry_answers : (ℕ → Reply) → ℕ → SeenEntry → List SeenAnswer
entry_answers choice n (call c) = call_answers choice n c.id
entry_answers choice n (reply m t r) = []
entry_answers choice n stray = []
entry_answers choice n invalid = record { id = Null; reply = Standard InvalidRequest } ∷ []

-- the answers of entries, in their order
abbrev pub answers_from : (ℕ → Reply) → ℕ → List SeenEntry → List SeenAnswer
answers_from choice n [] = []
answers_from choice n (e ∷ es) = entry_answers choice n e ++ answers_from choice (n + numbers_of e) es

-- the numbers of the requests among entries
abbrev pub call_request : ℕ → Option Id → List ℕ
call_request n None = []
call_request n (Some id) = n ∷ []

abbrev pub entry_request : ℕ → SeenEntry → List ℕ
entry_request n (call c) = call_request n c.id
entry_request n (reply m t r) = []
entry_request n stray = []
entry_request n invalid = []

abbrev pub requests_from : ℕ → List SeenEntry → List ℕ
requests_from n [] = []
requests_from n (e ∷ es) = entry_request n e ++ requests_from (n + numbers_of e) es

-- a unit by its kind, its answers and the numbers of its requests, where its first call has this number
abbrev pub unit_kind : SeenUnit → Kind
unit_kind unreadable = Single
unit_kind (single e) = Single
unit_kind (batch es) = Batch

abbrev pub unit_answers : (ℕ → Reply) → ℕ → SeenUnit → List SeenAnswer
unit_answers choice n unreadable = record { id = Null; reply = Standard ParseError } ∷ []
unit_answers choice n (single e) = entry_answers choice n e
unit_answers choice n (batch es) = answers_from choice n es

abbrev pub unit_requests : ℕ → SeenUnit → List ℕ
unit_requests n unreadable = []
unit_requests n (single e) = entry_request n e
unit_requests n (batch es) = requests_from n es

-- what is due to a unit: its text, where it has one
abbrev pub due_if : List ℕ → Option (List ℕ) → List Due
due_if requests None = []
due_if requests (Some text) = record { requests = requests; text = text } ∷ []

abbrev pub unit_dues : (ℕ → Reply) → ℕ → SeenUnit → List Due
unit_dues choice n u = due_if (unit_requests n u) (unit_text (unit_kind u) (unit_answers choice n u))

-- what is due to units, in their order
abbrev pub dues : (ℕ → Reply) → ℕ → List SeenUnit → List Due
dues choice n [] = []
dues choice n (u ∷ us) = unit_dues choice n u ++ dues choice (n + unit_numbers u) us
