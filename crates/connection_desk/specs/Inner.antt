-- What a desk keeps.
use Rattle.std.specs.Prelude.{◌≡◌, ℕ, ◌≤◌, ◌+◌, ◌-◌, ◌&&◌, ◌==◌, nat_le, List, [], ◌∷◌, ◌++◌, Bool, true, false, filter, map, length, Option, Some, None, is_some, if◌then◌else◌}
use Rattle.std.specs.List.{list_any}
use Rattle.std.specs.Global.{Vec}
use Rattle.std.specs.Vec.{vec_capacity}
use Rattle.std.specs.VecDeque.{deque_capacity, deque_len}
use Rattle.message_ids.specs.declared.id.Id.{Id}
use Rattle.connection_messages.specs.Texts.{withdrawal_text}
use Rattle.connection_messages.specs.declared.answer.Answer.{Answer}
use Rattle.connection_messages.specs.declared.answer.Answer.TheVariants as answer
use Rattle.connection_messages.specs.declared.cancels.Cancels.{Cancels}
use Rattle.connection_messages.specs.declared.entry.Entry.{Entry}
use Rattle.connection_messages.specs.declared.entry.Entry.TheVariants.{Call, Cancel, Reply, Stray, Invalid}
use Rattle.connection_messages.specs.declared.unit.Unit as units
use Rattle.connection_messages.specs.declared.unit.Unit.TheVariants.{Unreadable, Single, Batch}
use Rattle.connection_history.specs.Stream.{call_in, calls_in, entries_in}
use Rattle.connection_history.specs.Counts.{capped}
use Rattle.connection_history.specs.declared.close.Close.{Close}
use Rattle.connection_history.specs.declared.event.Event.{Event}
use Rattle.connection_history.specs.declared.event.Event.TheVariants as event
use Rattle.connection_history.specs.declared.order.Order.{Order}
use Rattle.open_calls.specs.declared.their_call.TheirCall.{TheirCall}
use Rattle.open_calls.specs.declared.own_call.OwnCall.{OwnCall}
use Rattle.open_calls.specs.Own.{OwnState, is_wanted_by}
use Rattle.open_calls.specs.Theirs.{TheirState, new_call, is_reached, cancelled}
use Rattle.open_calls.specs.Numbered.{at, up_to, without}
use Rattle.owed_answers.specs.Owed.{OwedUnit, unit_texts}
use Rattle.connection_history.specs.declared.order.Order.TheVariants.{AsAnswered, AsCame}
use Rattle.connection_steps.specs.States.{is_batch, owed_slots, slot_count}
use Rattle.connection_steps.specs.Steps.{leaving, is_complete, new_unit_slots, reached_numbers, own_after}
use Rattle.connection_desk.specs.declared.answering.Given.TheVariants as given
use Rattle.connection_desk.specs.declared.answering.Given.{Given}
use Rattle.connection_desk.specs.declared.events.Events.{Events}
use Rattle.connection_desk.specs.declared.tally.Tally.{Tally}

-- the last event, where the input is over
abbrev pub over_event : Option Close → List Event
over_event None = []
over_event (Some close) = event.Over close ∷ []

-- that a call waits is told at the end
abbrev pub unanswered_events : OwnState → List Event
unanswered_events own = map (λ e. event.Unanswered e.0) own.waiting

abbrev pub untold_of : Events → List Event
untold_of events = events.items.items ++ unanswered_events events.unanswered ++ over_event events.over

-- how many events can be put without memory
abbrev pub room_of : Events → ℕ
room_of events = deque_capacity events.items - deque_len events.items

-- The end isn't there yet.
pub record IsOpenEnded (events : Events) : Type 0 where
  pub none_waits : events.unanswered.waiting ≡ []
  pub not_over : events.over ≡ None

-- whether the unit at this place has all of its answers
abbrev pub complete_in : Option OwedUnit → Bool
complete_in None = false
complete_in (Some unit) = is_complete unit

abbrev pub complete_at : ℕ → List (ℕ × OwedUnit) → Bool
complete_at place owed = complete_in (at place owed)

-- the answer of that unit, where all are given and it has one
abbrev pub complete_text_in : Option OwedUnit → List (List ℕ)
complete_text_in None = []
complete_text_in (Some unit) = if is_complete unit then unit_texts unit else []

abbrev pub complete_text_at : ℕ → List (ℕ × OwedUnit) → List (List ℕ)
complete_text_at place owed = complete_text_in (at place owed)

-- the units from this place on, where there is one
abbrev pub rest_from : {X : Type 0} → ℕ → List (ℕ × X) → List (ℕ × X)
rest_from number [] = []
rest_from number (e ∷ es) = if number == e.0 then e ∷ es else rest_from number es

abbrev pub rest_of : {X : Type 0} → Option ℕ → List (ℕ × X) → List (ℕ × X)
rest_of None all = []
rest_of (Some number) all = rest_from number all

-- As answered, no unit but the one at this place has all of its answers.
abbrev pub OnlyAt : Order → ℕ → List (ℕ × OwedUnit) → Type 0
OnlyAt AsAnswered place owed = leaving AsAnswered (without place owed) ≡ []
OnlyAt AsCame place owed = Unit {0}

pub record IsDesk (order : Order) (owed : List (ℕ × OwedUnit)) (is_over : Bool) (events : Events) (room : Vec ℕ) : Type 0 where
  -- what can go out is out
  pub settled : leaving order owed ≡ []
  pub open_ended : is_over ≡ false → IsOpenEnded events
  -- so much room for texts at most is kept
  pub kept : vec_capacity room ≤ 65536

-- ---- the answers of a unit that comes

-- what the unit at this place is owed, where it is owed anything
abbrev pub owed_in : ℕ → Option OwedUnit → List (ℕ × OwedUnit)
owed_in place None = []
owed_in place (Some unit) = (place, unit) ∷ []

-- ---- a unit's calls are open before its entries do anything

-- the calls of an entry, where so many came before and its slot is this one
abbrev pub added_call : ℕ → ℕ → ℕ → Entry → List (ℕ × TheirCall)
added_call place slot came (Call c) = (came + 1, new_call c.id place slot) ∷ []
added_call place slot came (Cancel id) = []
added_call place slot came (Reply k r) = []
added_call place slot came Stray = []
added_call place slot came Invalid = []

abbrev pub added_calls : ℕ → ℕ → ℕ → List Entry → List (ℕ × TheirCall)
added_calls place slot came [] = []
added_calls place slot came (e ∷ es) =
    added_call place slot came e ++ added_calls place (slot + slot_count e) (came + length (call_in e)) es

-- The calls of the unit at this place are open, and this is what it is owed.
pub record IsAdmitted (place : ℕ) (unit : units.Unit) (was : TheirState) (due : Option OwedUnit) (now : TheirState) : Type 0 where
  pub owed : owed_in place due ≡ owed_slots place (is_batch unit) (new_unit_slots unit)
  pub theirs : now ≡ record {
    came = was.came + length (calls_in (entries_in unit));
    calls = was.calls ++ added_calls place 0 was.came (entries_in unit);
  }

-- Calls were added behind the others, and nothing else happened to them.
pub record IsLonger (was now : TheirState) : Type 0 where
  pub more : was.came ≤ now.came
  pub kept : (n : ℕ) → n ≤ was.came → up_to n now.calls ≡ up_to n was.calls

abbrev pub is_cancel : Entry → Bool
is_cancel (Call c) = false
is_cancel (Cancel id) = true
is_cancel (Reply k r) = false
is_cancel Stray = false
is_cancel Invalid = false

abbrev pub has_cancel : List Entry → Bool
has_cancel es = list_any is_cancel es

-- whether an event of its own may come with an entry: with a call one does, and with a reply where our call waits
abbrev pub is_telling : Entry → Bool
is_telling (Call c) = true
is_telling (Cancel id) = false
is_telling (Reply k r) = true
is_telling Stray = false
is_telling Invalid = false

-- at most so many events come with these entries, where so many calls are open then
abbrev pub most_events : ℕ → List Entry → ℕ
most_events count es = length (filter is_telling es) + (if has_cancel es then count else 0)

-- ---- what entries do then: a cancel reaches the calls that came before it alone

abbrev pub cancelled_to : ℕ → Id → List (ℕ × TheirCall) → List (ℕ × TheirCall)
cancelled_to n id calls = map (λ e. (e.0, (if nat_le e.0 n && is_reached id e.1 then cancelled e.1 else e.1))) calls

abbrev pub reached_to : ℕ → Id → List (ℕ × TheirCall) → List ℕ
reached_to n id calls = reached_numbers id (up_to n calls)

-- of an entry that the call with this number stands before
abbrev pub told_at : ℕ → OwnState → List (ℕ × TheirCall) → Entry → List Event
told_at n own calls (Call c) = event.Call (n + 1) c ∷ []
told_at n own calls (Cancel id) = map event.Cancelled (reached_to n id calls)
told_at n own calls (Reply k r) = if is_some (at k own.waiting) then event.Replied k r ∷ [] else []
told_at n own calls Stray = []
told_at n own calls Invalid = []

abbrev pub calls_at : ℕ → Entry → List (ℕ × TheirCall) → List (ℕ × TheirCall)
calls_at n (Call c) calls = calls
calls_at n (Cancel id) calls = cancelled_to n id calls
calls_at n (Reply k r) calls = calls
calls_at n Stray calls = calls
calls_at n Invalid calls = calls

abbrev pub told_along : ℕ → OwnState → List (ℕ × TheirCall) → List Entry → List Event
told_along n own calls [] = []
told_along n own calls (e ∷ es) =
    told_at n own calls e ++ told_along (n + length (call_in e)) (own_after e own) (calls_at n e calls) es

abbrev pub calls_along : ℕ → List Entry → List (ℕ × TheirCall) → List (ℕ × TheirCall)
calls_along n [] calls = calls
calls_along n (e ∷ es) calls = calls_along (n + length (call_in e)) es (calls_at n e calls)

-- ---- what is counted then

-- one more call came, with this id or none
abbrev pub with_call : Option Id → Tally → Tally
with_call None t = t
with_call (Some id) t = record t { requests = capped (t.requests + 1) }

abbrev pub with_ignored : Tally → Tally
with_ignored t = record t { ignored = capped (t.ignored + 1) }

-- a reply or a cancel of which this is told
abbrev pub with_ignored_if : List Event → Tally → Tally
with_ignored_if [] t = with_ignored t
with_ignored_if (e ∷ es) t = t

-- an entry of which this is told
abbrev pub counted : List Event → Entry → Tally → Tally
counted told (Call c) t = with_call c.id t
counted told (Cancel id) t = with_ignored_if told t
counted told (Reply k r) t = with_ignored_if told t
counted told Stray t = with_ignored t
counted told Invalid t = record t { invalid = capped (t.invalid + 1) }

abbrev pub counted_along : ℕ → OwnState → List (ℕ × TheirCall) → List Entry → Tally → Tally
counted_along n own calls [] t = t
counted_along n own calls (e ∷ es) t =
    counted_along (n + length (call_in e)) (own_after e own) (calls_at n e calls) es (counted (told_at n own calls e) e t)

abbrev pub counted_in : units.Unit → ℕ → OwnState → List (ℕ × TheirCall) → Tally → Tally
counted_in Unreadable n own calls t = record t { unreadable = capped (t.unreadable + 1) }
counted_in (Single e) n own calls t = counted_along n own calls (e ∷ []) t
counted_in (Batch es) n own calls t = counted_along n own calls es t

-- ---- a call is cancelled by the host

-- the notifications that withdraw the calls of n, of those that wait
-- what a call is answered with, unless it is closed without an answer
abbrev pub given_answer : Given → Option Answer
given_answer (given.Answer a) = Some a.now
given_answer (given.Result text) = Some (answer.Result text.now)
given_answer given.Nothing = None

abbrev pub withdrawals_of : Option Cancels → ℕ → List (ℕ × OwnCall) → List (List ℕ)
withdrawals_of None n waiting = []
withdrawals_of (Some by) n waiting = map (withdrawal_text by) (map (λ e. e.0) (filter (λ e. is_wanted_by n e.1) waiting))
