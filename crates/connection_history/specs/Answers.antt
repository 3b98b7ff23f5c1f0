-- The answer of a unit (JSON-RPC 2.0, sections 5 and 6).
use Rattle.std.specs.Prelude.{ℕ, ◌+◌, List, [], ◌∷◌, ◌++◌, length, Option, Some, None, option_map}
use Rattle.message_ids.specs.declared.id.Id.{Id}
use Rattle.message_ids.specs.declared.id.Id.TheVariants.{Null}
use Rattle.message_ids.specs.declared.standard.Standard.TheVariants.{ParseError, InvalidRequest}
use Rattle.connection_messages.specs.Texts.{answer_text, batch_text}
use Rattle.connection_messages.specs.declared.answer.Answer.{Answer}
use Rattle.connection_messages.specs.declared.answer.Answer.TheVariants.{Standard}
use Rattle.connection_messages.specs.declared.entry.Entry.{Entry}
use Rattle.connection_messages.specs.declared.entry.Entry.TheVariants.{Call, Cancel, Reply, Stray, Invalid}
use Rattle.connection_messages.specs.declared.unit.Unit.{Unit}
use Rattle.connection_messages.specs.declared.unit.Unit.TheVariants.{Unreadable, Single, Batch}
use Rattle.connection_history.specs.Stream.{entries_in, calls_in, call_in}
use Rattle.connection_history.specs.History.{History, units_of, answer_to}

-- Texts of answers, of which none is there until all are.
abbrev pub Texts : Type 0
Texts = Option (List (List ℕ))

abbrev pub both : Texts → Texts → Texts
both None others = None
both (Some texts) None = None
both (Some texts) (Some others) = Some (texts ++ others)

-- the answer to a request with this id, where it isn't closed without one
abbrev pub texts_of : Id → Option Answer → List (List ℕ)
texts_of id None = []
texts_of id (Some a) = answer_text id a ∷ []

-- the answer of the call with this number: a request has one once it is answered, and a notification has none
abbrev pub call_texts : History → ℕ → Option Id → Texts
call_texts history n None = Some []
call_texts history n (Some id) = option_map (texts_of id) (answer_to n history)

-- the answer of an entry, where the next call has this number: what is invalid is answered under the id null
abbrev pub entry_texts : History → ℕ → Entry → Texts
entry_texts history n (Call c) = call_texts history n c.id
entry_texts history n (Cancel id) = Some []
entry_texts history n (Reply k r) = Some []
entry_texts history n Stray = Some []
entry_texts history n Invalid = Some (answer_text Null (Standard InvalidRequest) ∷ [])

-- the answers of entries, in their order
abbrev pub texts_along : History → ℕ → List Entry → Texts
texts_along history n [] = Some []
texts_along history n (e ∷ es) = both (entry_texts history n e) (texts_along history (n + length (call_in e)) es)

abbrev pub unit_texts : History → ℕ → Unit → Texts
unit_texts history n Unreadable = Some (answer_text Null (Standard ParseError) ∷ [])
unit_texts history n (Single e) = entry_texts history n e
unit_texts history n (Batch es) = texts_along history n es

-- What a unit is owed: its requests aren't all answered yet; or nothing; or this text.
pub data Due : Type 0 where
  open_yet : Due
  nothing : Due
  text : List ℕ → Due

-- the answer of a single entry as it is, those of a batch as one array
abbrev pub joined : Unit → List (List ℕ) → Due
joined u [] = nothing
joined Unreadable (t ∷ ts) = text t
joined (Single e) (t ∷ ts) = text t
joined (Batch es) (t ∷ ts) = text (batch_text (t ∷ ts))

abbrev pub due_from : Unit → Texts → Due
due_from u None = open_yet
due_from u (Some texts) = joined u texts

-- what a unit is owed, where its first call has this number
abbrev pub due_of : History → ℕ → Unit → Due
due_of history n u = due_from u (unit_texts history n u)

abbrev pub dues_along : History → ℕ → List Unit → List Due
dues_along history n [] = []
dues_along history n (u ∷ us) = due_of history n u ∷ dues_along history (n + length (calls_in (entries_in u))) us

-- what each unit that came is owed
abbrev pub dues : History → List Due
dues history = dues_along history 1 (units_of history)
