-- A connection behind a handle, and what is lent of it.
use Rattle.std.specs.Prelude.{◌≡◌, ◌⊎◌, ℕ, ◌+◌, ◌<◌, ◌≤◌, List, [], drop, length, min, nat_lt, Bool, true, false, ◌&&◌, Option, Some, None, Ok, Err, if◌then◌else◌}
use Rattle.std.specs.Vec.{vec_capacity, vec_ptr}
use denote.RawPtr.{Ptr, ◌+ₚ◌}
use Rattle.content_streams.specs.declared.framing.Framing.{Framing}
use Rattle.content_streams.specs.declared.framing.Framing.TheVariants.{Frames, Lines, Contents}
use Rattle.connection_history.specs.declared.event.Event.{Event}
use Rattle.connection_history.specs.History.{History}
use Rattle.connection_history.specs.declared.refused.Refused.TheVariants.{Memory}
use Rattle.outbox.specs.Output.{after_take, given_of, next_of}
use Rattle.connection.specs.Settings.{Chosen}
use Rattle.connection.specs.Connections as connections
use Rattle.connection.specs.Connections.{StandsAfter, output, with_output}
use Rattle.host_calls.specs.declared.code.Why.TheVariants.{Refused as By, Settings}
use Rattle.host_calls.specs.declared.event.EventTexts.{EventTexts}
use Rattle.host_calls.specs.declared.head.EventHead.{EventHead}
use Rattle.host_calls.specs.declared.head.LentEvent.{LentEvent}
use Rattle.host_calls.specs.declared.hosted.HostedConnection.{HostedConnection}
use Rattle.host_calls.specs.declared.outlet.Outlet.{Outlet}
use Rattle.host_calls.specs.Codes.{Said}
use Rattle.host_calls.specs.Events.{no_head, head_of, name_of, text_of, id_of}
use Rattle.host_calls.specs.Outlets.{Fetched, Kept}

-- nothing was fed, the input hasn't ended, nothing has happened yet, and nothing is lent
abbrev pub IsFresh : Chosen → HostedConnection → Type 0
IsFresh settings h =
    (h.outlet.connection.settings ≡ settings) × (h.outlet.next ≡ None) × (h.outlet.connection.stream.pieces ≡ []) × (h.outlet.connection.stream.ended ≡ None)
    × StandsAfter h.outlet.connection [] [] × (h.output.items ≡ []) × (h.gone ≡ 0)

-- ---- what is lent

-- the texts of the last event are the same ones, at the same place
abbrev pub SameTexts : HostedConnection → HostedConnection → Type 0
SameTexts a b = b.texts ≡ a.texts

-- what is lent to be written lies where it lay, and is the same
abbrev pub SameOutput : HostedConnection → HostedConnection → Type 0
SameOutput a b = (b.output ≡ a.output) × (b.gone ≡ a.gone)

-- From a to b all that is lent stays.
abbrev pub SameLoans : HostedConnection → HostedConnection → Type 0
SameLoans a b = SameTexts a b × SameOutput a b

-- ---- events

-- an event with this head and these texts, where they lie
abbrev pub lent_as : EventHead → EventTexts → LentEvent
lent_as h t = record { head = h; name = vec_ptr t.name; text = vec_ptr t.text; id = vec_ptr t.id }

-- these are the event's texts; where there is no event, they are empty
abbrev pub AreTextsOf : Option Event → EventTexts → Type 0
AreTextsOf None t = (t.name.items ≡ []) × (t.text.items ≡ []) × (t.id.items ≡ [])
AreTextsOf (Some e) t = (t.name.items ≡ name_of e) × (t.text.items ≡ text_of e) × (t.id.items ≡ id_of e)

abbrev pub head_or_none : Option Event → EventHead
head_or_none None = no_head
head_or_none (Some e) = head_of e

-- The next event is told, where there is one, and its texts are lent; or memory was refused, and the event, if it is at hand, waits.
abbrev pub Asked : HostedConnection → HostedConnection → LentEvent → LentEvent → Said → Type 0
Asked a b old new (Ok _) = SameOutput a b × ((m : Outlet) × Fetched a.outlet m × (b.outlet ≡ record m { next = None }) ×
    AreTextsOf m.next b.texts × (new ≡ lent_as (head_or_none m.next) b.texts))
Asked a b old new (Err why) = (why ≡ By Memory) × SameOutput a b × Kept a.outlet b.outlet × (new ≡ old)

-- ---- what is to be written

-- what is lent and hasn't gone
abbrev pub left : HostedConnection → List ℕ
left h = drop h.gone h.output.items

-- for how many bytes what is lent has room
abbrev pub lent_room : HostedConnection → ℕ
lent_room h = vec_capacity h.output + (vec_capacity h.texts.name + (vec_capacity h.texts.text + vec_capacity h.texts.id))

-- where it begins
abbrev pub output_at : HostedConnection → Ptr
output_at h = vec_ptr h.output +ₚ h.gone

-- nothing is left, and so many bytes are lent: the connection's next ones, none only where there are none
pub record HasLentMore (a b : HostedConnection) (n : ℕ) : Type 0 where
  pub none_left : left a ≡ []
  pub count : n ≡ length (left b)
  pub bytes : left b ≡ given_of (output a.outlet.connection) n
  pub outlet : b.outlet ≡ record a.outlet { connection = with_output a.outlet.connection (after_take n (output a.outlet.connection)) }
  pub none : n ≡ 0 → next_of (output a.outlet.connection) ≡ []

-- So many bytes are lent: those that are left of what was lent before, or else more.
abbrev pub HasLent : HostedConnection → HostedConnection → ℕ → Type 0
HasLent a b n = SameTexts a b × (((n ≡ length (left a)) × (0 < n) × (b ≡ a)) ⊎ HasLentMore a b n)

abbrev pub is_contents : Framing → Bool
is_contents Frames = false
is_contents Lines = false
is_contents Contents = true

-- in Contents a text goes as a whole
abbrev pub in_contents : HostedConnection → Bool
in_contents h = is_contents h.outlet.connection.settings.framing

-- So many bytes went: all else is the same. Or so many don't go, and nothing has changed.
abbrev pub HasGone : HostedConnection → HostedConnection → ℕ → Said → Type 0
HasGone a b n (Ok _) = (left b ≡ drop n (left a)) × (n ≤ length (left a)) × (in_contents a ≡ true → (n ≡ 0) ⊎ (n ≡ length (left a))) × SameTexts a b × (b.outlet ≡ a.outlet)
HasGone a b n (Err why) = (b ≡ a) × (why ≡ Settings) × ((length (left a) < n) ⊎ ((in_contents a ≡ true) × (0 < n) × (n < length (left a))))

-- How many bytes are to be written, or the greatest number; in Contents those of the next text, which may be lent.
abbrev pub pending : HostedConnection → ℕ
pending h = if in_contents h && nat_lt 0 (length (left h)) then length (left h) else min (length (left h) + length (next_of (output h.outlet.connection))) 18446744073709551615

-- The input is over, all is told, answered and written.
abbrev pub IsDone : HostedConnection → History → List Event → Type 0
IsDone h history told = (h.outlet.next ≡ None) × (left h ≡ []) × connections.IsDone h.outlet.connection history told
