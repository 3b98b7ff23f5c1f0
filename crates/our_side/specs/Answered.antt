-- How often a connection answers an id, and how often it was asked; and the same of answers that go out alone, and of arrays.
use Rattle.std.specs.Prelude.{◌≡◌, ◌≢◌, ℕ, ◌+◌, List, [], ◌∷◌, ◌++◌, length, Bool, true, false, map, Option, Some, ⊤}
use Rattle.std.specs.Option.{option_to_list}
use Rattle.connection_history.specs.History.{History, answer_to, units_of}
use Rattle.connection_history.specs.Stream.{entries_in, calls_in}
use Rattle.message_ids.specs.Ids.{has_id}
use Rattle.message_ids.specs.declared.id.Id.{Id}
use Rattle.message_ids.specs.declared.id.Id.TheVariants.{Null}
use Rattle.message_ids.specs.declared.standard.Standard.TheVariants.{ParseError, InvalidRequest}
use Rattle.connection_messages.specs.declared.answer.Answer.{Answer}
use Rattle.connection_messages.specs.declared.answer.Answer.TheVariants.{Standard}
use Rattle.connection_messages.specs.declared.call.Call.{Call as Came}
use Rattle.connection_messages.specs.declared.cancels.Cancels.{Cancels}
use Rattle.connection_messages.specs.declared.cancels.Cancels.TheVariants.{Mcp}
use Rattle.connection_messages.specs.declared.entry.Entry.{Entry}
use Rattle.connection_messages.specs.declared.entry.Entry.TheVariants.{Call, Cancel, Reply, Stray, Invalid}
use Rattle.connection_messages.specs.declared.unit.Unit.{Unit}
use Rattle.connection_messages.specs.declared.unit.Unit.TheVariants.{Unreadable, Single, Batch}
use Rattle.connection.specs.BackToBack.{Message, call, calls, notice, withdrawal, answer, answers}
use Rattle.our_side.specs.Asked.{as_number}

-- among the answers of a batch
abbrev pub answers_with : Id → List (Id × Answer) → ℕ
answers_with id [] = 0
answers_with id (a ∷ more) = as_number (has_id id (Some a.0)) + answers_with id more

-- among all that is said
abbrev pub answered_with : Id → List Message → ℕ
answered_with id [] = 0
answered_with id (call key o ∷ ms) = answered_with id ms
answered_with id (calls key os ∷ ms) = answered_with id ms
answered_with id (notice o ∷ ms) = answered_with id ms
answered_with id (withdrawal by key ∷ ms) = answered_with id ms
answered_with id (answer other a ∷ ms) = as_number (has_id id (Some other)) + answered_with id ms
answered_with id (answers all ∷ ms) = answers_with id all + answered_with id ms

-- among the calls that came
abbrev pub asked_with : Id → List Came → ℕ
asked_with id [] = 0
asked_with id (c ∷ cs) = as_number (has_id id c.id) + asked_with id cs

-- ---- in single messages, and in arrays

-- the id under which an entry is answered, if it is: what is invalid is answered under null
abbrev pub id_due : Entry → List Id
id_due (Call c) = option_to_list c.id
id_due (Cancel id) = []
id_due (Reply key reply) = []
id_due Stray = []
id_due Invalid = Null ∷ []

abbrev pub ids_due : List Entry → List Id
ids_due [] = []
ids_due (e ∷ es) = id_due e ++ ids_due es

-- how many of these ids pass a test
abbrev pub passing : (Id → Bool) → List Id → ℕ
passing test [] = 0
passing test (id ∷ ids) = as_number (test id) + passing test ids

-- An entry that stands alone is answered by an answer that passes a test, if it is invalid; and if it is a call, its answer may
-- pass.
abbrev pub alone_at : (Id × Answer → Bool) → (Id → Bool) → Entry → ℕ
alone_at test may (Call c) = passing may (option_to_list c.id)
alone_at test may (Cancel id) = 0
alone_at test may (Reply key reply) = 0
alone_at test may Stray = 0
alone_at test may Invalid = as_number (test (Null, Standard InvalidRequest))

-- so is a unit that is no batch
abbrev pub came_alone : (Id × Answer → Bool) → (Id → Bool) → Unit → ℕ
came_alone test may Unreadable = as_number (test (Null, Standard ParseError))
came_alone test may (Single e) = alone_at test may e
came_alone test may (Batch es) = 0

-- a batch is answered under such ids
abbrev pub came_together : (List Id → Bool) → Unit → ℕ
came_together test Unreadable = 0
came_together test (Single e) = 0
came_together test (Batch es) = as_number (test (ids_due es))

-- a message is such an answer, or such an array of answers
abbrev pub said_alone : (Id × Answer → Bool) → Message → ℕ
said_alone test (call key o) = 0
said_alone test (calls key os) = 0
said_alone test (notice o) = 0
said_alone test (withdrawal by key) = 0
said_alone test (answer id a) = as_number (test (id, a))
said_alone test (answers all) = 0

abbrev pub said_together : (List Id → Bool) → Message → ℕ
said_together test (call key o) = 0
said_together test (calls key os) = 0
said_together test (notice o) = 0
said_together test (withdrawal by key) = 0
said_together test (answer id a) = 0
said_together test (answers all) = as_number (test (map (λ a. a.0) all))

abbrev pub total : {X : Type 0} → (X → ℕ) → List X → ℕ
total count [] = 0
total count (x ∷ xs) = count x + total count xs

-- an array has an answer, or a batch is answered by one
abbrev pub has_ids : List Id → Bool
has_ids [] = false
has_ids (id ∷ ids) = true

abbrev pub any_cancel : List Entry → Bool
any_cancel [] = false
any_cancel (Call c ∷ es) = any_cancel es
any_cancel (Cancel id ∷ es) = true
any_cancel (Reply key reply ∷ es) = any_cancel es
any_cancel (Stray ∷ es) = any_cancel es
any_cancel (Invalid ∷ es) = any_cancel es

-- Where batches came, no cancel of MCP can take an answer out of one.
abbrev pub AreAnsweredWhole : Option Cancels → List Unit → Type 0
AreAnsweredWhole cancels [] = ⊤
AreAnsweredWhole cancels (Unreadable ∷ us) = AreAnsweredWhole cancels us
AreAnsweredWhole cancels (Single e ∷ us) = AreAnsweredWhole cancels us
AreAnsweredWhole cancels (Batch es ∷ us) = (cancels ≢ Some Mcp) × AreAnsweredWhole cancels us

-- ---- calls that came alone

-- Of the ids of calls that came alone, and the answers that the host gave to them, where the first call of these units has this
-- number.
abbrev pub OfCall : (Id → Answer → Type 0) → History → ℕ → Entry → Type 0
OfCall P history n (Call c) = (id : Id) (a : Answer) → c.id ≡ Some id → answer_to n history ≡ Some (Some a) → P id a
OfCall P history n (Cancel id) = ⊤
OfCall P history n (Reply key reply) = ⊤
OfCall P history n Stray = ⊤
OfCall P history n Invalid = ⊤

abbrev pub OfUnit : (Id → Answer → Type 0) → History → ℕ → Unit → Type 0
OfUnit P history n Unreadable = ⊤
OfUnit P history n (Single e) = OfCall P history n e
OfUnit P history n (Batch es) = ⊤

abbrev pub OfUnits : (Id → Answer → Type 0) → History → ℕ → List Unit → Type 0
OfUnits P history n [] = ⊤
OfUnits P history n (u ∷ us) = OfUnit P history n u × OfUnits P history (n + length (calls_in (entries_in u))) us

abbrev pub OfSingleCalls : (Id → Answer → Type 0) → History → Type 0
OfSingleCalls P history = OfUnits P history 1 (units_of history)
