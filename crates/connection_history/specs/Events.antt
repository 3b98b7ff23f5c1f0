-- What a connection tells its host.
use Rattle.std.specs.Prelude.{ℕ, ◌+◌, ◌==◌, ◌&&◌, not, List, [], ◌∷◌, ◌++◌, Bool, map, filter, length, Option, Some, None, if◌then◌else◌}
use Rattle.message_ids.specs.Ids.{has_id}
use Rattle.message_ids.specs.declared.id.Id.{Id}
use Rattle.connection_messages.specs.declared.entry.Entry.{Entry}
use Rattle.connection_messages.specs.declared.entry.Entry.TheVariants.{Call, Cancel, Reply, Stray, Invalid}
use Rattle.connection_messages.specs.declared.unit.Unit.{Unit}
use Rattle.connection_messages.specs.declared.unit.Unit.TheVariants.{Unreadable, Single, Batch}
use Rattle.connection_history.specs.declared.broken.Broken.{Broken}
use Rattle.connection_history.specs.declared.broken.Defect.{Defect}
use Rattle.connection_history.specs.declared.broken.Defect.TheVariants as defects
use Rattle.connection_history.specs.declared.event.Event.{Event}
use Rattle.connection_history.specs.declared.event.Event.TheVariants as event
use Rattle.connection_history.specs.Stream.{entries_in, calls_in, is_invalid, request_id, is_cancelled}
use Rattle.connection_history.specs.History.{Origin, Happening, came, called, called_all, noticed, withdrew, answered, ended, History, stream, is_open, is_waiting, waiting, numbers_to}

-- how many calls have come
abbrev pub call_count : History → ℕ
call_count history = length (calls_in (stream history))

-- A cancel reaches each open request with its id that came before it, unless an earlier one has reached it.
abbrev pub is_reached : Id → History → ℕ → Bool
is_reached id history n = has_id id (request_id n (stream history)) && is_open n history && not (is_cancelled n (stream history))

abbrev pub reached : Id → History → List ℕ
reached id history = filter (is_reached id history) (numbers_to (call_count history))

-- what is told of one more entry
abbrev pub events_of_entry : History → Entry → List Event
events_of_entry history (Call c) = event.Call (call_count history + 1) c ∷ []
events_of_entry history (Cancel id) = map event.Cancelled (reached id history)
events_of_entry history (Reply k r) = if is_waiting k history then event.Replied k r ∷ [] else []
events_of_entry history Stray = []
events_of_entry history Invalid = []

-- of entries one after another, each after those in front of it
abbrev pub events_along : History → List Entry → List Entry → List Event
events_along past front [] = []
events_along past front (e ∷ es) = events_of_entry (came None (Batch front) ∷ past) e ++ events_along past (front ++ e ∷ []) es

-- ---- what is broken

-- the place among entries, from 0, of the first that is invalid
abbrev pub first_invalid : List Entry → ℕ
first_invalid [] = 0
first_invalid (e ∷ es) = if is_invalid e then 0 else first_invalid es + 1

-- of entries, how many are invalid, where any is
abbrev pub defect_among : List Entry → Option Defect
defect_among es = if length (filter is_invalid es) == 0 then None else Some (defects.Invalid (first_invalid es) (length (filter is_invalid es)))

-- what is wrong with a unit: it is unreadable, or has invalid entries
abbrev pub defect_of : Unit → Option Defect
defect_of Unreadable = Some defects.Unreadable
defect_of (Single e) = defect_among (e ∷ [])
defect_of (Batch es) = defect_among es

abbrev pub broken_by : Origin → Option Defect → List Broken
broken_by o None = []
broken_by o (Some d) = record { place = o.place; start = o.start; defect = d } ∷ []

-- Where broken input is told, a unit with a defect is broken, once, by the origin of its content.
abbrev pub broken_in : Option Origin → Unit → List Broken
broken_in None u = []
broken_in (Some o) u = broken_by o (defect_of u)

abbrev pub broken_at : Option Origin → Unit → List Event
broken_at o u = map event.Broken (broken_in o u)

-- ---- what happens

-- what is told when this happens after a history
abbrev pub events_at : History → Happening → List Event
events_at past (came o u) = broken_at o u ++ events_along past [] (entries_in u)
events_at past (called n o) = []
events_at past (called_all n os) = []
events_at past (noticed o) = []
events_at past (withdrew by k) = []
events_at past (answered n a) = []
events_at past (ended close) = map event.Unanswered (waiting past) ++ event.Over close ∷ []

-- all that is told, in its order
abbrev pub events_of : History → List Event
events_of [] = []
events_of (h ∷ past) = events_of past ++ events_at past h
