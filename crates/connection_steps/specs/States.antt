-- What stands open after a history, as plain lists: our calls that wait, the other side's calls, and the answers that aren't out.
use Rattle.std.specs.Prelude.{ℕ, ◌+◌, List, [], ◌∷◌, ◌++◌, Bool, true, false, map, length, Option, Some, None, option_map, unwrap_or, if◌then◌else◌}
use Rattle.message_ids.specs.declared.id.Id.{Id}
use Rattle.message_ids.specs.declared.id.Id.TheVariants.{Null}
use Rattle.message_ids.specs.declared.standard.Standard.TheVariants.{ParseError, InvalidRequest}
use Rattle.connection_messages.specs.Texts.{answer_text}
use Rattle.connection_messages.specs.declared.answer.Answer.{Answer}
use Rattle.connection_messages.specs.declared.answer.Answer.TheVariants.{Standard}
use Rattle.connection_messages.specs.declared.entry.Entry.{Entry}
use Rattle.connection_messages.specs.declared.entry.Entry.TheVariants.{Call, Cancel, Reply, Stray, Invalid}
use Rattle.connection_messages.specs.declared.unit.Unit.{Unit}
use Rattle.connection_messages.specs.declared.unit.Unit.TheVariants.{Unreadable, Single, Batch}
use Rattle.connection_history.specs.declared.order.Order.{Order}
use Rattle.connection_history.specs.declared.order.Order.TheVariants.{AsAnswered, AsCame}
use Rattle.connection_history.specs.Stream.{entries_in, calls_in, call_in, is_cancelled}
use Rattle.connection_history.specs.History.{History, stream, units_of, is_open, is_over, is_withdrawn, waiting, caller_of, key_count, answer_to}
use Rattle.connection_history.specs.Events.{call_count}
use Rattle.connection_history.specs.Answers.{Due, open_yet, nothing, text, dues}
use Rattle.open_calls.specs.declared.own_call.OwnCall.{OwnCall}
use Rattle.open_calls.specs.declared.their_call.TheirCall.{TheirCall}
use Rattle.open_calls.specs.Own.{OwnState}
use Rattle.open_calls.specs.Theirs.{TheirState}
use Rattle.owed_answers.specs.Owed.{OwedState, OwedUnit}

pub record State : Type 0 where
  pub own : OwnState
  pub theirs : TheirState
  pub owed : OwedState
  pub is_over : Bool

-- ---- our calls

abbrev pub own_call : ℕ → History → OwnCall
own_call k history = record { caller = unwrap_or (caller_of k history) 0; is_withdrawn = is_withdrawn k history }

-- our calls that wait, by their keys
abbrev pub own_of : History → OwnState
own_of history = record { made = key_count history; waiting = map (λ k. (k, own_call k history)) (waiting history) }

-- ---- answers

-- the text of a slot that a request with this id has: that of a call which is closed without an answer is empty
abbrev pub given_text : Id → Option Answer → List ℕ
given_text id None = []
given_text id (Some a) = answer_text id a

-- the slot of a call in its unit's answer: a notification has none, and a request has its text once it is answered
abbrev pub call_slots : History → ℕ → Option Id → List (Option (List ℕ))
call_slots history n None = []
call_slots history n (Some id) = option_map (given_text id) (answer_to n history) ∷ []

abbrev pub invalid_slot : Option (List ℕ)
invalid_slot = Some (answer_text Null (Standard InvalidRequest))

abbrev pub unreadable_slot : Option (List ℕ)
unreadable_slot = Some (answer_text Null (Standard ParseError))

-- the slots of an entry, where the next call has this number
abbrev pub entry_slots : History → ℕ → Entry → List (Option (List ℕ))
entry_slots history n (Call c) = call_slots history n c.id
entry_slots history n (Cancel id) = []
entry_slots history n (Reply k r) = []
entry_slots history n Stray = []
entry_slots history n Invalid = invalid_slot ∷ []

abbrev pub slots_along : History → ℕ → List Entry → List (Option (List ℕ))
slots_along history n [] = []
slots_along history n (e ∷ es) = entry_slots history n e ++ slots_along history (n + length (call_in e)) es

abbrev pub unit_slots : History → ℕ → Unit → List (Option (List ℕ))
unit_slots history n Unreadable = unreadable_slot ∷ []
unit_slots history n (Single e) = slots_along history n (e ∷ [])
unit_slots history n (Batch es) = slots_along history n es

abbrev pub is_batch : Unit → Bool
is_batch Unreadable = false
is_batch (Single e) = false
is_batch (Batch es) = true

-- whether all requests of a unit are answered, or closed without an answer
abbrev pub is_settled : Due → Bool
is_settled open_yet = false
is_settled nothing = true
is_settled (text t) = true

-- Of each unit whether it is done with: as answered, once it is settled; as came, once no unit up to it is open.
abbrev pub gone : Order → List Due → List Bool
gone AsAnswered due = map is_settled due
gone AsCame [] = []
gone AsCame (open_yet ∷ due) = false ∷ map (λ d. false) due
gone AsCame (nothing ∷ due) = true ∷ gone AsCame due
gone AsCame (text t ∷ due) = true ∷ gone AsCame due

-- a unit that isn't done with, where it has any answer
abbrev pub owed_slots : ℕ → Bool → List (Option (List ℕ)) → List (ℕ × OwedUnit)
owed_slots place batch [] = []
owed_slots place batch (s ∷ ss) = (place, record { is_batch = batch; slots = s ∷ ss }) ∷ []

abbrev pub owed_unit : History → ℕ → ℕ → Unit → Bool → List (ℕ × OwedUnit)
owed_unit history place n u true = []
owed_unit history place n u false = owed_slots place (is_batch u) (unit_slots history n u)

-- of units from this place on, whose next call has this number, and which of them are done with
abbrev pub owed_along : History → ℕ → ℕ → List Unit → List Bool → List (ℕ × OwedUnit)
owed_along history place n [] done = []
owed_along history place n (u ∷ us) [] = []
owed_along history place n (u ∷ us) (d ∷ done) =
    owed_unit history place n u d ++ owed_along history (place + 1) (n + length (calls_in (entries_in u))) us done

-- the units that aren't done with, by their places
abbrev pub owed_of : Order → History → OwedState
owed_of order history = record { places = length (units_of history); owed = owed_along history 0 1 (units_of history) (gone order (dues history)) }

-- ---- the other side's calls

-- how many slots an entry has
abbrev pub id_slots : Option Id → ℕ
id_slots None = 0
id_slots (Some id) = 1

abbrev pub slot_count : Entry → ℕ
slot_count (Call c) = id_slots c.id
slot_count (Cancel id) = 0
slot_count (Reply k r) = 0
slot_count Stray = 0
slot_count Invalid = 1

-- an entry of the unit at this place, where the next call has the number n and the next slot is this one
abbrev pub their_entry : History → ℕ → ℕ → ℕ → Entry → List (ℕ × TheirCall)
their_entry history place n slot (Call c) =
    if is_open n history then (n, record { id = c.id; is_cancelled = is_cancelled n (stream history); place = place; slot = slot }) ∷ [] else []
their_entry history place n slot (Cancel id) = []
their_entry history place n slot (Reply k r) = []
their_entry history place n slot Stray = []
their_entry history place n slot Invalid = []

abbrev pub theirs_along : History → ℕ → ℕ → ℕ → List Entry → List (ℕ × TheirCall)
theirs_along history place n slot [] = []
theirs_along history place n slot (e ∷ es) =
    their_entry history place n slot e ++ theirs_along history place (n + length (call_in e)) (slot + slot_count e) es

abbrev pub theirs_in : History → ℕ → ℕ → List Unit → List (ℕ × TheirCall)
theirs_in history place n [] = []
theirs_in history place n (u ∷ us) =
    theirs_along history place n 0 (entries_in u) ++ theirs_in history (place + 1) (n + length (calls_in (entries_in u))) us

-- the calls that are open, by their numbers
abbrev pub theirs_of : History → TheirState
theirs_of history = record { came = call_count history; calls = theirs_in history 0 1 (units_of history) }

-- ---- all of it

abbrev pub state_of : Order → History → State
state_of order history = record { own = own_of history; theirs = theirs_of history; owed = owed_of order history; is_over = is_over history }
