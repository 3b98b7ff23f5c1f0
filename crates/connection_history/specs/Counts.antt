-- How often things have happened (docs/connection.md, "The report").
use Rattle.std.specs.Prelude.{ℕ, ◌+◌, ◌-◌, ◌^◌, min, List, [], ◌∷◌, ◌++◌, Bool, true, false, filter, length, None, is_some}
use Rattle.connection_messages.specs.declared.entry.Entry.{Entry}
use Rattle.connection_messages.specs.declared.entry.Entry.TheVariants.{Call, Cancel, Reply, Stray, Invalid}
use Rattle.connection_messages.specs.declared.unit.Unit.{Unit}
use Rattle.connection_messages.specs.declared.unit.Unit.TheVariants.{Unreadable, Single, Batch}
use Rattle.connection_history.specs.declared.event.Event.{Event}
use Rattle.connection_history.specs.declared.order.Order.{Order}
use Rattle.connection_history.specs.Stream.{entries_in, calls_in, is_invalid}
use Rattle.connection_history.specs.History.{Happening, came, called, called_all, noticed, withdrew, answered, ended, History, stream, units_of, is_open, numbers_to}
use Rattle.connection_history.specs.Events.{call_count, events_of_entry}
use Rattle.connection_history.specs.Items.{Item, said, answer, items_of}

-- the calls that have an id
abbrev pub request_count : History → ℕ
request_count history = length (filter (λ c. is_some c.id) (calls_in (stream history)))

-- the calls that came and aren't answered
abbrev pub open_count : History → ℕ
open_count history = length (filter (λ n. is_open n history) (numbers_to (call_count history)))

abbrev pub is_unreadable : Unit → Bool
is_unreadable Unreadable = true
is_unreadable (Single e) = false
is_unreadable (Batch es) = false

abbrev pub unreadable_count : History → ℕ
unreadable_count history = length (filter is_unreadable (units_of history))

abbrev pub invalid_count : History → ℕ
invalid_count history = length (filter is_invalid (stream history))

abbrev pub is_answer : Item → Bool
is_answer (said t) = false
is_answer (answer place t) = true

-- the answers that have gone out; that of a batch is one
abbrev pub answer_count : Order → History → ℕ
answer_count order history = length (filter is_answer (items_of order history))

abbrev pub if_none : List Event → ℕ
if_none [] = 1
if_none (e ∷ es) = 0

-- A reply or a cancel of which nothing is told is ignored, and so is each stray.
abbrev pub ignored_of : History → Entry → ℕ
ignored_of history (Call c) = 0
ignored_of history (Cancel id) = if_none (events_of_entry history (Cancel id))
ignored_of history (Reply k r) = if_none (events_of_entry history (Reply k r))
ignored_of history Stray = 1
ignored_of history Invalid = 0

-- of entries one after another, each after those in front of it
abbrev pub ignored_along : History → List Entry → List Entry → ℕ
ignored_along past front [] = 0
ignored_along past front (e ∷ es) = ignored_of (came None (Batch front) ∷ past) e + ignored_along past (front ++ e ∷ []) es

abbrev pub ignored_at : History → Happening → ℕ
ignored_at past (came o u) = ignored_along past [] (entries_in u)
ignored_at past (called n o) = 0
ignored_at past (called_all n os) = 0
ignored_at past (noticed o) = 0
ignored_at past (withdrew by k) = 0
ignored_at past (answered n a) = 0
ignored_at past (ended close) = 0

abbrev pub ignored_count : History → ℕ
ignored_count [] = 0
ignored_count (h ∷ past) = ignored_count past + ignored_at past h

-- ---- counts of 64 bits

-- such a count stays at its greatest
abbrev pub capped : ℕ → ℕ
capped n = min n (2 ^ 64 - 1)
