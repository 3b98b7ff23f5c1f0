-- A desk: what stands open, what isn't told yet, what was written, and what is counted.
use Rattle.std.specs.Prelude.{ℕ, ◌+◌, ◌≡◌, ◌==◌, ◌&&◌, ◌||◌, not, nat_lt, List, [], ◌∷◌, ◌++◌, Bool, true, false, filter, map, length, Option, Some, None, is_some, option_to_list, unwrap_or, if◌then◌else◌}
use Rattle.std.specs.Option.{option_map_or}
use Rattle.message_ids.specs.declared.standard.Standard.TheVariants.{Cancelled}
use Rattle.connection_messages.specs.Texts.{call_text, calls_text, notice_text, withdrawal_text}
use Rattle.connection_messages.specs.declared.answer.Answer.{Answer}
use Rattle.connection_messages.specs.declared.answer.Answer.TheVariants.{Standard}
use Rattle.connection_messages.specs.declared.cancels.Cancels.{Cancels}
use Rattle.connection_messages.specs.declared.cancels.Cancels.TheVariants.{Mcp}
use Rattle.connection_messages.specs.declared.outgoing.Outgoing.{Outgoing}
use Rattle.connection_messages.specs.declared.unit.Unit.{Unit}
use Rattle.connection_history.specs.declared.broken.Broken.{Broken}
use Rattle.connection_history.specs.declared.close.Close.{Close}
use Rattle.connection_history.specs.declared.event.Event.{Event}
use Rattle.connection_history.specs.declared.event.Event.TheVariants as event
use Rattle.connection_history.specs.declared.order.Order.{Order}
use Rattle.connection_history.specs.declared.refused.Refused.{Refused}
use Rattle.connection_history.specs.declared.refused.Refused.TheVariants.{Memory, NotOpen, NotWaiting, Over, Empty, Full}
use Rattle.connection_history.specs.Refusals.{by_of, first_of, has_cancels, most_keys}
use Rattle.connection_history.specs.Stream.{entries_in}
use Rattle.connection_history.specs.Counts.{capped}
use Rattle.connection_history.specs.Items.{text_of}
use Rattle.open_calls.specs.declared.own_call.OwnCall.{OwnCall}
use Rattle.open_calls.specs.Numbered.{at}
use Rattle.open_calls.specs.Own.{is_wanted_by}
use Rattle.owed_answers.specs.Owed.{OwedUnit}
use Rattle.open_calls.specs.declared.their_call.TheirCall.{TheirCall}
use Rattle.outbox.specs.Output.{Output, IsAllTaken}
use Rattle.connection_steps.specs.States.{State}
use Rattle.connection_steps.specs.Steps.{after_came, after_called, after_withdrew, after_answered, after_ended, answers_of, leaving, owed_with, owed_given, told_of_all, told_at_end}
use Rattle.connection_steps.specs.Tallies as exact
use Rattle.connection_steps.specs.Tallies.{tally_in, answers_let_out}
use Rattle.connection_desk.specs.declared.tally.Tally.{Tally}

pub record Desk : Type 0 where
  -- whose cancels are told apart from calls, if any, and withdraw our calls
  pub cancels : Option Cancels
  pub order : Order
  pub state : State
  -- what the host hasn't been told yet, in its order
  pub untold : List Event
  pub out : Output
  -- how often some things have happened
  pub tally : Tally

-- Nothing is left to do.
pub record IsDone (d : Desk) : Type 0 where
  pub over : d.state.is_over ≡ true
  pub told : d.untold ≡ []
  pub answered : d.state.theirs.calls ≡ []
  pub taken : IsAllTaken d.out

-- ---- what is written

abbrev pub with_texts : List (List ℕ) → Output → Output
with_texts texts o = record { framing = o.framing; written = o.written ++ texts; taken = o.taken }

-- the texts of the answers of these units
abbrev pub answer_texts : List (ℕ × OwedUnit) → List (List ℕ)
answer_texts owed = map text_of (answers_of owed)

-- how many of these units have an answer
abbrev pub answer_count : List (ℕ × OwedUnit) → ℕ
answer_count owed = length (answers_of owed)

-- ---- what is counted

-- exact counts, each as a count of 64 bits
abbrev pub capped_tally : exact.Tally → Tally
capped_tally t = record {
  requests = capped t.requests;
  answers = capped t.answers;
  unreadable = capped t.unreadable;
  invalid = capped t.invalid;
  ignored = capped t.ignored;
}

-- so many more of each
abbrev pub with_counts : exact.Tally → Tally → Tally
with_counts more t = record {
  requests = capped (t.requests + more.requests);
  answers = capped (t.answers + more.answers);
  unreadable = capped (t.unreadable + more.unreadable);
  invalid = capped (t.invalid + more.invalid);
  ignored = capped (t.ignored + more.ignored);
}

-- so many more answers
abbrev pub with_answers : ℕ → Tally → Tally
with_answers count t = record t { answers = capped (t.answers + count) }

-- ---- what is refused

-- number 0, the host itself, is always open
abbrev pub has_call : ℕ → State → Bool
has_call n s = (n == 0) || is_some (at n s.theirs.calls)

-- a call of ours, or so many
abbrev pub call_refused : ℕ → ℕ → State → Option Refused
call_refused n count s =
    first_of ((not (has_call n s), NotOpen) ∷ (s.is_over, Over) ∷ (count == 0, Empty) ∷ (nat_lt most_keys (s.own.made + count), Full) ∷ [])

abbrev pub isnt_withdrawn : OwnCall → Bool
isnt_withdrawn call = not call.is_withdrawn

abbrev pub can_withdraw : Option Cancels → ℕ → State → Bool
can_withdraw cancels k s = is_some cancels && option_map_or isnt_withdrawn (at k s.own.waiting) false

abbrev pub withdraw_refused : Option Cancels → ℕ → State → Option Refused
withdraw_refused cancels k s = first_of ((not (can_withdraw cancels k s), NotWaiting) ∷ [])

abbrev pub answer_refused : ℕ → State → Option Refused
answer_refused n s = first_of ((not (is_some (at n s.theirs.calls)), NotOpen) ∷ [])

-- What is refused by a rule is refused for just that, whatever memory does. Anything else is refused for memory alone.
abbrev pub IsRefusal : Refused → Option Refused → Type 0
IsRefusal why refusal = why ≡ unwrap_or refusal Memory

-- ---- what happens

-- a unit, of which this is broken, where that is told
abbrev pub after_unit : Option Broken → Unit → Desk → Desk
after_unit broken u d = record {
  cancels = d.cancels;
  order = d.order;
  state = after_came d.order u d.state;
  untold = d.untold ++ (map event.Broken (option_to_list broken) ++ told_of_all d.state.own d.state.theirs (entries_in u));
  out = with_texts (answer_texts (leaving d.order (owed_with u d.state.owed))) d.out;
  tally = with_counts (tally_in d.order u d.state) d.tally;
}

abbrev pub after_end : Close → Desk → Desk
after_end close d = record {
  cancels = d.cancels;
  order = d.order;
  state = after_ended d.state;
  untold = d.untold ++ told_at_end close d.state.own;
  out = d.out;
  tally = d.tally;
}

-- these texts are said, and so many calls of ours are made on behalf of n
abbrev pub after_saying : List (List ℕ) → Desk → Desk
after_saying texts d = record d { out = with_texts texts d.out }

abbrev pub after_call : ℕ → Outgoing → Desk → Desk
after_call n o d = after_saying (call_text (d.state.own.made + 1) o ∷ []) (record d { state = after_called n 1 d.state })

abbrev pub after_calls : ℕ → List Outgoing → Desk → Desk
after_calls n os d = after_saying (calls_text (d.state.own.made + 1) os ∷ []) (record d { state = after_called n (length os) d.state })

abbrev pub after_notice : Outgoing → Desk → Desk
after_notice o d = after_saying (notice_text o ∷ []) d

abbrev pub after_withdrawal : ℕ → Desk → Desk
after_withdrawal k d =
    after_saying (withdrawal_text (by_of d.cancels) k ∷ []) (record d { state = after_withdrew (by_of d.cancels) k d.state })

-- call n is answered, or closed without an answer
abbrev pub after_answer : ℕ → Option Answer → Desk → Desk
after_answer n a d = record {
  cancels = d.cancels;
  order = d.order;
  state = after_answered d.order n a d.state;
  untold = d.untold;
  out = with_texts (answer_texts (leaving d.order (owed_given (at n d.state.theirs.calls) a d.state.owed.owed))) d.out;
  tally = with_answers (answers_let_out d.order n a d.state) d.tally;
}

-- the keys of the calls of n that aren't withdrawn
abbrev pub wanted_keys : ℕ → State → List ℕ
wanted_keys n s = map (λ e. e.0) (filter (λ e. is_wanted_by n e.1) s.own.waiting)

-- whether the cancel of this call came, where it is open
abbrev pub is_cancelled : Option TheirCall → Bool
is_cancelled None = false
is_cancelled (Some call) = call.is_cancelled

-- MCP 2025-06-18, "Cancellation": a request whose cancel came needs no answer.
abbrev pub may_leave : Option Cancels → ℕ → State → Bool
may_leave cancels n s = has_cancels Mcp cancels && is_cancelled (at n s.theirs.calls)

-- the answer of a call that the host cancels, where it needs any
abbrev pub cancel_answer_in : Option Cancels → ℕ → State → Option Answer
cancel_answer_in cancels n s = if may_leave cancels n s then None else Some (Standard Cancelled)

-- the notifications that withdraw the calls of n
abbrev pub withdrawals_in : Option Cancels → ℕ → State → List (List ℕ)
withdrawals_in None n s = []
withdrawals_in (Some by) n s = map (withdrawal_text by) (wanted_keys n s)

-- with cancels the calls of n are withdrawn; then n is answered, or closed without an answer
abbrev pub after_cancel : ℕ → Desk → Desk
after_cancel n d = after_answer n (cancel_answer_in d.cancels n d.state) (after_saying (withdrawals_in d.cancels n d.state) d)
