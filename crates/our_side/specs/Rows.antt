-- Worked conversations of a connection that the judge tells of.
use Rattle.std.specs.Prelude.{ℕ, List, [], ◌∷◌, false, Option, Some, None, codes}
use Rattle.json.specs.Json.{Json, string}
use Rattle.message_ids.specs.declared.id.Id.TheVariants.{Text}
use Rattle.connection_messages.specs.declared.answer.Answer.{Answer}
use Rattle.connection_messages.specs.declared.answer.Answer.TheVariants.{Result}
use Rattle.connection_messages.specs.declared.cancels.Cancels.{Cancels}
use Rattle.connection_messages.specs.declared.entry.Entry.{Entry}
use Rattle.connection_messages.specs.declared.entry.Entry.TheVariants.{Call, Cancel, Invalid}
use Rattle.connection_messages.specs.declared.rules.Rules.{Rules}
use Rattle.connection_messages.specs.declared.unit.Unit.{Unit}
use Rattle.connection_messages.specs.declared.unit.Unit.TheVariants.{Single, Batch}
use Rattle.connection_history.specs.History.{came, answered, History}
use Rattle.conversation_reading.specs.Rows.{message, method, outcome}
use Rattle.conversation_rules.specs.Rows.{array_of, mcp_cancel}

-- how a connection reads by these cancels, batches of so many entries
abbrev pub reads : Option Cancels → Option ℕ → Rules
reads cancels most = record { cancels = cancels; most_entries = most; null_params = false }

-- ---- a batch of more entries than the connection takes

abbrev pub too_many : History
too_many = came None (Single Invalid) ∷ []

-- ---- cancelled requests of which one is answered all the same, in batches that have an id in common

abbrev pub call_with : List ℕ → Entry
call_with id = Call (record { id = Some (Text id); method = codes "a"; params = None })

abbrev pub request_with : List ℕ → Json
request_with id = message (method ∷ (codes "id", string id) ∷ [])

abbrev pub answer_with : List ℕ → Json
answer_with id = message ((codes "id", string id) ∷ outcome ∷ [])

abbrev pub first_batch : Json
first_batch = array_of (request_with (codes "x") ∷ request_with (codes "y") ∷ mcp_cancel (string (codes "x")) ∷ mcp_cancel (string (codes "y")) ∷ [])

abbrev pub second_batch : Json
second_batch = array_of (request_with (codes "x") ∷ request_with (codes "z") ∷ mcp_cancel (string (codes "z")) ∷ [])

abbrev pub first_came : Unit
first_came = Batch (call_with (codes "x") ∷ call_with (codes "y") ∷ Cancel (Text (codes "x")) ∷ Cancel (Text (codes "y")) ∷ [])

abbrev pub second_came : Unit
second_came = Batch (call_with (codes "x") ∷ call_with (codes "z") ∷ Cancel (Text (codes "z")) ∷ [])

abbrev pub one : Answer
one = Result (codes "{}")

-- x and y came, and x and z; all but the second x are cancelled. It is answered, and so is y; the others are closed.
abbrev pub left_in_batches : History
left_in_batches = answered 2 (Some one) ∷ answered 1 None ∷ answered 4 None ∷ answered 3 (Some one) ∷ came None second_came ∷ came None first_came ∷ []
