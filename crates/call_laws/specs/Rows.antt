-- Worked conversations.
use Rattle.std.specs.Prelude.{[], ◌∷◌, None, Some, codes}
use Rattle.message_ids.specs.declared.id.Id.TheVariants.{Unsigned}
use Rattle.connection_messages.specs.ReadBack.{call_as_read, calls_as_read, answer_as_read}
use Rattle.connection_messages.specs.declared.answer.Answer.{Answer}
use Rattle.connection_messages.specs.declared.answer.Answer.TheVariants.{Result}
use Rattle.connection_messages.specs.declared.entry.Entry.TheVariants.{Call}
use Rattle.connection_messages.specs.declared.outgoing.Outgoing.{Outgoing}
use Rattle.connection_messages.specs.declared.unit.Unit.{Unit}
use Rattle.connection_messages.specs.declared.unit.Unit.TheVariants.{Single, Batch}
use Rattle.connection_history.specs.History.{History, came, called, answered}

abbrev pub question : Outgoing
question = record { method = codes "a"; params = None }

abbrev pub reply : Answer
reply = Result (codes "null")

-- the request, and its response, as they are read
abbrev pub request : Unit
request = Single (Call (call_as_read 1 question))

abbrev pub response : Unit
response = Single (answer_as_read (Unsigned 1) reply)

-- The one side asks, and the other answers; the latest stands first.
abbrev pub asks : History
asks = called 0 question ∷ []

abbrev pub asks_and_hears : History
asks_and_hears = came None response ∷ asks

abbrev pub answers : History
answers = answered 1 (Some reply) ∷ came None request ∷ []

-- the response comes before the request is made
abbrev pub hears_and_asks : History
hears_and_asks = called 0 question ∷ came None response ∷ []

-- two requests came in one array, and the first is answered
abbrev pub answers_the_first : History
answers_the_first = answered 1 (Some reply) ∷ came None (Batch (calls_as_read 1 (question ∷ question ∷ []))) ∷ []

-- A request is made on behalf of a call, and this is answered before the response comes.
abbrev pub closes_first : History
closes_first = came None response ∷ answered 1 (Some reply) ∷ called 1 question ∷ came None request ∷ []
