-- What each happening changes of what stands open.
use Rattle.std.specs.Prelude.{ℕ, ◌+◌, ◌==◌, not, List, [], ◌∷◌, ◌++◌, Bool, true, map, filter, flat_map, Option, Some, None, is_some, if◌then◌else◌}
use Rattle.message_ids.specs.declared.id.Id.{Id}
use Rattle.connection_messages.specs.declared.answer.Answer.{Answer}
use Rattle.connection_messages.specs.declared.cancels.Cancels.{Cancels}
use Rattle.connection_messages.specs.declared.cancels.Cancels.TheVariants.{Lsp, Mcp}
use Rattle.connection_messages.specs.declared.entry.Entry.{Entry}
use Rattle.connection_messages.specs.declared.entry.Entry.TheVariants.{Call, Cancel, Reply, Stray, Invalid}
use Rattle.connection_messages.specs.declared.unit.Unit.{Unit}
use Rattle.connection_messages.specs.declared.unit.Unit.TheVariants.{Unreadable, Single, Batch}
use Rattle.connection_history.specs.declared.close.Close.{Close}
use Rattle.connection_history.specs.declared.event.Event.{Event}
use Rattle.connection_history.specs.declared.event.Event.TheVariants as event
use Rattle.connection_history.specs.declared.order.Order.{Order}
use Rattle.connection_history.specs.declared.order.Order.TheVariants.{AsAnswered, AsCame}
use Rattle.connection_history.specs.Stream.{entries_in}
use Rattle.connection_history.specs.Events.{broken_at}
use Rattle.connection_history.specs.History.{Origin}
use Rattle.connection_history.specs.Items.{Item, answer}
use Rattle.open_calls.specs.declared.own_call.OwnCall.{OwnCall}
use Rattle.open_calls.specs.declared.their_call.TheirCall.{TheirCall}
use Rattle.open_calls.specs.Numbered.{at, without, changed_at}
use Rattle.open_calls.specs.Own.{OwnState, new_calls, withdrawn, without_caller}
use Rattle.open_calls.specs.Theirs.{TheirState, new_call, is_reached, cancelled}
use Rattle.owed_answers.specs.Owed.{OwedState, OwedUnit, given, lacking, unit_texts}
use Rattle.connection_steps.specs.States.{State, is_batch, given_text, invalid_slot, unreadable_slot, owed_slots, slot_count}

-- ---- the entries of a unit

-- the numbers of the requests that a cancel of this id reaches
abbrev pub reached_numbers : Id → List (ℕ × TheirCall) → List ℕ
reached_numbers id calls = map (λ e. e.0) (filter (λ e. is_reached id e.1) calls)

abbrev pub cancelled_if : Id → TheirCall → TheirCall
cancelled_if id call = if is_reached id call then cancelled call else call

abbrev pub cancelled_all : Id → List (ℕ × TheirCall) → List (ℕ × TheirCall)
cancelled_all id calls = map (λ e. (e.0, cancelled_if id e.1)) calls

-- the calls that are open after an entry of the unit at this place came, whose next slot is this one
abbrev pub theirs_after : ℕ → ℕ → Entry → TheirState → TheirState
theirs_after place slot (Call c) s = record { came = s.came + 1; calls = s.calls ++ (s.came + 1, new_call c.id place slot) ∷ [] }
theirs_after place slot (Cancel id) s = record s { calls = cancelled_all id s.calls }
theirs_after place slot (Reply k r) s = s
theirs_after place slot Stray s = s
theirs_after place slot Invalid s = s

abbrev pub theirs_after_all : ℕ → ℕ → List Entry → TheirState → TheirState
theirs_after_all place slot [] s = s
theirs_after_all place slot (e ∷ es) s = theirs_after_all place (slot + slot_count e) es (theirs_after place slot e s)

-- our calls that wait after an entry came
abbrev pub own_after : Entry → OwnState → OwnState
own_after (Call c) s = s
own_after (Cancel id) s = s
own_after (Reply k r) s = record s { waiting = without k s.waiting }
own_after Stray s = s
own_after Invalid s = s

abbrev pub own_after_all : List Entry → OwnState → OwnState
own_after_all [] s = s
own_after_all (e ∷ es) s = own_after_all es (own_after e s)

-- what is told of an entry
abbrev pub told_of : OwnState → TheirState → Entry → List Event
told_of own theirs (Call c) = event.Call (theirs.came + 1) c ∷ []
told_of own theirs (Cancel id) = map event.Cancelled (reached_numbers id theirs.calls)
told_of own theirs (Reply k r) = if is_some (at k own.waiting) then event.Replied k r ∷ [] else []
told_of own theirs Stray = []
told_of own theirs Invalid = []

-- of entries one after another. Where a call's answer stands plays no part in what is told.
abbrev pub told_of_all : OwnState → TheirState → List Entry → List Event
told_of_all own theirs [] = []
told_of_all own theirs (e ∷ es) = told_of own theirs e ++ told_of_all (own_after e own) (theirs_after 0 0 e theirs) es

-- What is told of a unit that came: where broken input is told, first what is broken.
abbrev pub told_of_unit : Option Origin → OwnState → TheirState → Unit → List Event
told_of_unit o own theirs u = broken_at o u ++ told_of_all own theirs (entries_in u)

-- the slots that an entry brings
abbrev pub new_call_slots : Option Id → List (Option (List ℕ))
new_call_slots None = []
new_call_slots (Some id) = None ∷ []

abbrev pub new_slots : Entry → List (Option (List ℕ))
new_slots (Call c) = new_call_slots c.id
new_slots (Cancel id) = []
new_slots (Reply k r) = []
new_slots Stray = []
new_slots Invalid = invalid_slot ∷ []

abbrev pub new_unit_slots : Unit → List (Option (List ℕ))
new_unit_slots Unreadable = unreadable_slot ∷ []
new_unit_slots (Single e) = flat_map new_slots (e ∷ [])
new_unit_slots (Batch es) = flat_map new_slots es

-- ---- what goes out

abbrev pub is_complete : OwedUnit → Bool
is_complete unit = lacking unit == 0

-- the units in front whose answers are complete, and the others from the first that isn't on
abbrev pub complete_front : List (ℕ × OwedUnit) → List (ℕ × OwedUnit)
complete_front [] = []
complete_front (e ∷ es) = if is_complete e.1 then e ∷ complete_front es else []

abbrev pub incomplete_rest : List (ℕ × OwedUnit) → List (ℕ × OwedUnit)
incomplete_rest [] = []
incomplete_rest (e ∷ es) = if is_complete e.1 then incomplete_rest es else e ∷ es

-- the units whose answers go out now, and those that stay
abbrev pub leaving : Order → List (ℕ × OwedUnit) → List (ℕ × OwedUnit)
leaving AsAnswered owed = filter (λ e. is_complete e.1) owed
leaving AsCame owed = complete_front owed

abbrev pub staying : Order → List (ℕ × OwedUnit) → List (ℕ × OwedUnit)
staying AsAnswered owed = filter (λ e. not (is_complete e.1)) owed
staying AsCame owed = incomplete_rest owed

-- the answer of a unit, where it has any
abbrev pub answer_of : ℕ × OwedUnit → List Item
answer_of e = map (answer e.0) (unit_texts e.1)

abbrev pub answers_of : List (ℕ × OwedUnit) → List Item
answers_of owed = flat_map answer_of owed

-- ---- happenings

-- a unit that came is owed its answers
abbrev pub owed_with : Unit → OwedState → List (ℕ × OwedUnit)
owed_with u s = s.owed ++ owed_slots s.places (is_batch u) (new_unit_slots u)

abbrev pub after_came : Order → Unit → State → State
after_came order u s = record {
  own = own_after_all (entries_in u) s.own;
  theirs = theirs_after_all s.owed.places 0 (entries_in u) s.theirs;
  owed = record { places = s.owed.places + 1; owed = staying order (owed_with u s.owed) };
  is_over = s.is_over;
}

-- so many calls of ours on behalf of n
abbrev pub own_with : ℕ → ℕ → OwnState → OwnState
own_with n count s = record { made = s.made + count; waiting = s.waiting ++ new_calls s.made n count }

abbrev pub after_called : ℕ → ℕ → State → State
after_called n count s = record s { own = own_with n count s.own }

-- The calls that wait, where call k is withdrawn: by LSP's cancel it still waits, and by MCP's no longer.
abbrev pub withdrawn_by : Cancels → ℕ → List (ℕ × OwnCall) → List (ℕ × OwnCall)
withdrawn_by Lsp k waiting = changed_at k withdrawn waiting
withdrawn_by Mcp k waiting = without k waiting

abbrev pub after_withdrew : Cancels → ℕ → State → State
after_withdrew by k s = record s { own = record s.own { waiting = withdrawn_by by k s.own.waiting } }

-- the answer of a call stands in its slot; a notification has none
abbrev pub given_to : Option Id → TheirCall → Option Answer → List (ℕ × OwedUnit) → List (ℕ × OwedUnit)
given_to None call a owed = owed
given_to (Some id) call a owed = changed_at call.place (given call.slot (given_text id a)) owed

abbrev pub owed_given : Option TheirCall → Option Answer → List (ℕ × OwedUnit) → List (ℕ × OwedUnit)
owed_given None a owed = owed
owed_given (Some call) a owed = given_to call.id call a owed

abbrev pub after_answered : Order → ℕ → Option Answer → State → State
after_answered order n a s = record {
  own = record s.own { waiting = without_caller n s.own.waiting };
  theirs = record s.theirs { calls = without n s.theirs.calls };
  owed = record s.owed { owed = staying order (owed_given (at n s.theirs.calls) a s.owed.owed) };
  is_over = s.is_over;
}

abbrev pub after_ended : State → State
after_ended s = record s { own = record s.own { waiting = [] }; is_over = true }

-- what is told at the end
abbrev pub told_at_end : Close → OwnState → List Event
told_at_end close own = map (λ e. event.Unanswered e.0) own.waiting ++ event.Over close ∷ []
