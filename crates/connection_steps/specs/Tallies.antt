-- How often things have happened, and what each happening adds.
use Rattle.std.specs.Prelude.{ℕ, ◌+◌, List, [], ◌∷◌, filter, length, Option, is_some, if◌then◌else◌}
use Rattle.connection_messages.specs.declared.answer.Answer.{Answer}
use Rattle.connection_messages.specs.declared.entry.Entry.{Entry}
use Rattle.connection_messages.specs.declared.entry.Entry.TheVariants.{Call, Cancel, Reply, Stray, Invalid}
use Rattle.connection_messages.specs.declared.unit.Unit.{Unit}
use Rattle.connection_history.specs.declared.event.Event.{Event}
use Rattle.connection_history.specs.declared.order.Order.{Order}
use Rattle.connection_history.specs.Stream.{entries_in, calls_in, is_invalid}
use Rattle.connection_history.specs.History.{History}
use Rattle.connection_history.specs.Counts.{request_count, answer_count, is_unreadable, unreadable_count, invalid_count, if_none, ignored_count}
use Rattle.open_calls.specs.Numbered.{at}
use Rattle.open_calls.specs.Own.{OwnState}
use Rattle.open_calls.specs.Theirs.{TheirState}
use Rattle.connection_steps.specs.States.{State}
use Rattle.connection_steps.specs.Steps.{own_after, theirs_after, told_of, answers_of, leaving, owed_with, owed_given}

-- what is counted, and doesn't stand in a `State`
pub record Tally : Type 0 where
  pub requests : ℕ
  pub answers : ℕ
  pub unreadable : ℕ
  pub invalid : ℕ
  pub ignored : ℕ

abbrev pub tally_of : Order → History → Tally
tally_of order history = record {
  requests = request_count history;
  answers = answer_count order history;
  unreadable = unreadable_count history;
  invalid = invalid_count history;
  ignored = ignored_count history;
}

abbrev pub no_counts : Tally
no_counts = record { requests = 0; answers = 0; unreadable = 0; invalid = 0; ignored = 0 }

-- ---- what entries add

abbrev pub requests_in : List Entry → ℕ
requests_in es = length (filter (λ c. is_some c.id) (calls_in es))

abbrev pub invalid_in : List Entry → ℕ
invalid_in es = length (filter is_invalid es)

-- an entry of which this is told
abbrev pub ignored_if : Entry → List Event → ℕ
ignored_if (Call c) told = 0
ignored_if (Cancel id) told = if_none told
ignored_if (Reply k r) told = if_none told
ignored_if Stray told = 1
ignored_if Invalid told = 0

-- of entries one after another, as in `told_of_all`
abbrev pub ignored_in : OwnState → TheirState → List Entry → ℕ
ignored_in own theirs [] = 0
ignored_in own theirs (e ∷ es) = ignored_if e (told_of own theirs e) + ignored_in (own_after e own) (theirs_after 0 0 e theirs) es

-- ---- what happenings add

-- a unit that came
abbrev pub tally_in : Order → Unit → State → Tally
tally_in order u s = record {
  requests = requests_in (entries_in u);
  answers = length (answers_of (leaving order (owed_with u s.owed)));
  unreadable = if is_unreadable u then 1 else 0;
  invalid = invalid_in (entries_in u);
  ignored = ignored_in s.own s.theirs (entries_in u);
}

abbrev pub plus : Tally → Tally → Tally
plus t more = record {
  requests = t.requests + more.requests;
  answers = t.answers + more.answers;
  unreadable = t.unreadable + more.unreadable;
  invalid = t.invalid + more.invalid;
  ignored = t.ignored + more.ignored;
}

-- how many answers the answer of call n lets out
abbrev pub answers_let_out : Order → ℕ → Option Answer → State → ℕ
answers_let_out order n a s = length (answers_of (leaving order (owed_given (at n s.theirs.calls) a s.owed.owed)))

abbrev pub plus_answers : ℕ → Tally → Tally
plus_answers count t = record t { answers = t.answers + count }
