-- What the two readings of a content have in common.
use Rattle.std.specs.Prelude.{◌&&◌, ◌||◌, not, Bool, true, false, codes, is_some}
use Rattle.connection_messages.specs.Reading.{call_id}
use Rattle.connection_messages.specs.declared.entry.Entry.{Entry as Read}
use Rattle.connection_messages.specs.declared.entry.Entry.TheVariants.{Call, Cancel, Reply, Stray, Invalid as Nothing}
use Rattle.connection_messages.specs.declared.unit.Unit.{Unit as Units}
use Rattle.connection_messages.specs.declared.unit.Unit.TheVariants as units
use Rattle.conversation_reading.specs.declared.entry.Entry.{Entry}
use Rattle.conversation_reading.specs.declared.entry.Faults.{Faults}
use Rattle.conversation_reading.specs.declared.entry.Kind.{Kind}
use Rattle.conversation_reading.specs.declared.entry.Kind.TheVariants.{Request, Notification, Answer, BrokenAnswer, Invalid}
use Rattle.conversation_reading.specs.declared.reading.Reading.{Reading}
use Rattle.conversation_reading.specs.declared.reading.Reading.TheVariants.{Foreign, NotText, NotJson, OverLimits, HalfPair, Single, Array}
use Rattle.json.specs.Find.{get}
use Rattle.json.specs.Json.{Json}

-- ---- strictly

abbrev pub can_be_read : Reading → Bool
can_be_read Foreign = false
can_be_read NotText = false
can_be_read NotJson = false
can_be_read OverLimits = false
can_be_read HalfPair = false
can_be_read (Single entry) = true
can_be_read (Array entries) = true

abbrev pub is_answer_kind : Kind → Bool
is_answer_kind Request = false
is_answer_kind Notification = false
is_answer_kind Answer = true
is_answer_kind BrokenAnswer = true
is_answer_kind Invalid = false

abbrev pub is_call_kind : Kind → Bool
is_call_kind Request = true
is_call_kind Notification = true
is_call_kind Answer = false
is_call_kind BrokenAnswer = false
is_call_kind Invalid = false

-- an answer, broken or not
abbrev pub is_answer : Entry → Bool
is_answer entry = is_answer_kind entry.kind

-- a request or a notification
abbrev pub is_well_call : Entry → Bool
is_well_call entry = is_call_kind entry.kind

-- or what would be one but for its params
abbrev pub has_other_faults : Faults → Bool
has_other_faults f = f.object || (f.version || (f.method || (f.id || (f.outcome || f.error))))

abbrev pub may_be_call : Entry → Bool
may_be_call entry = entry.there.method && not (has_other_faults entry.faults)

-- ---- to a connection

abbrev pub is_unit : Units → Bool
is_unit units.Unreadable = false
is_unit (units.Single entry) = true
is_unit (units.Batch entries) = true

abbrev pub is_reply : Read → Bool
is_reply (Call call) = false
is_reply (Cancel id) = false
is_reply (Reply key reply) = true
is_reply Stray = true
is_reply Nothing = false

abbrev pub is_call : Read → Bool
is_call (Call call) = true
is_call (Cancel id) = true
is_call (Reply key reply) = false
is_call Stray = false
is_call Nothing = false

-- there is no id, or one that is a string, null or a plain number
abbrev pub has_known_id : Json → Bool
has_known_id j = is_some (call_id (get (codes "id") j))
