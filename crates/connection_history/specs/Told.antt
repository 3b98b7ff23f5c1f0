-- What lists of events tell of one thing, and what laws say of that.
use Rattle.std.specs.Prelude.{◌≡◌, ⊤, ℕ, ◌+◌, ◌==◌, List, [], ◌∷◌, ◌++◌, map, true, Option, Some, None, if◌then◌else◌}
use Rattle.connection_messages.specs.declared.call.Call.{Call}
use Rattle.connection_messages.specs.declared.cancels.Cancels.{Cancels}
use Rattle.connection_messages.specs.declared.cancels.Cancels.TheVariants.{Mcp}
use Rattle.connection_messages.specs.declared.entry.Entry.{Entry}
use Rattle.connection_messages.specs.declared.entry.Entry.TheVariants.{Cancel}
use Rattle.connection_messages.specs.declared.reply.Reply.{Reply}
use Rattle.connection_messages.specs.declared.unit.Unit.{Unit}
use Rattle.connection_messages.specs.declared.unit.Unit.TheVariants.{Batch}
use Rattle.message_ids.specs.declared.id.Id.{Id}
use Rattle.connection_history.specs.declared.broken.Broken.{Broken}
use Rattle.connection_history.specs.declared.event.Event.{Event}
use Rattle.connection_history.specs.declared.event.Event.TheVariants as event
use Rattle.connection_history.specs.Stream.{entries_in, is_cancelled}
use Rattle.connection_history.specs.History.{Happening, came, called, called_all, noticed, withdrew, answered, ended, History, stream}
use Rattle.connection_history.specs.Events.{broken_in, is_reached, events_of}

-- the calls that are told, each with its number
abbrev pub calls_told : List Event → List (ℕ × Call)
calls_told [] = []
calls_told (event.Call n c ∷ told) = (n, c) ∷ calls_told told
calls_told (event.Cancelled n ∷ told) = calls_told told
calls_told (event.Replied k r ∷ told) = calls_told told
calls_told (event.Unanswered k ∷ told) = calls_told told
calls_told (event.Over close ∷ told) = calls_told told
calls_told (event.Broken b ∷ told) = calls_told told

-- calls with the numbers from n on
abbrev pub numbered : ℕ → List Call → List (ℕ × Call)
numbered n [] = []
numbered n (c ∷ cs) = (n, c) ∷ numbered (n + 1) cs

-- the replies to our call k that are told
abbrev pub replies_told : ℕ → List Event → List Reply
replies_told k [] = []
replies_told k (event.Call n c ∷ told) = replies_told k told
replies_told k (event.Cancelled n ∷ told) = replies_told k told
replies_told k (event.Replied j r ∷ told) = if j == k then r ∷ replies_told k told else replies_told k told
replies_told k (event.Unanswered j ∷ told) = replies_told k told
replies_told k (event.Over close ∷ told) = replies_told k told
replies_told k (event.Broken b ∷ told) = replies_told k told

-- how often a call of ours is told to have no reply
abbrev pub unanswered_told : ℕ → List Event → ℕ
unanswered_told k [] = 0
unanswered_told k (event.Call n c ∷ told) = unanswered_told k told
unanswered_told k (event.Cancelled n ∷ told) = unanswered_told k told
unanswered_told k (event.Replied j r ∷ told) = unanswered_told k told
unanswered_told k (event.Unanswered j ∷ told) = (if j == k then 1 else 0) + unanswered_told k told
unanswered_told k (event.Over close ∷ told) = unanswered_told k told
unanswered_told k (event.Broken b ∷ told) = unanswered_told k told

-- how often the request n is told to be cancelled
abbrev pub cancels_told : ℕ → List Event → ℕ
cancels_told n [] = 0
cancels_told n (event.Call m c ∷ told) = cancels_told n told
cancels_told n (event.Cancelled m ∷ told) = (if m == n then 1 else 0) + cancels_told n told
cancels_told n (event.Replied k r ∷ told) = cancels_told n told
cancels_told n (event.Unanswered k ∷ told) = cancels_told n told
cancels_told n (event.Over close ∷ told) = cancels_told n told
cancels_told n (event.Broken b ∷ told) = cancels_told n told

-- the requests that are told to be cancelled
abbrev pub cancelled_in : List Event → List ℕ
cancelled_in [] = []
cancelled_in (event.Call n c ∷ told) = cancelled_in told
cancelled_in (event.Cancelled n ∷ told) = n ∷ cancelled_in told
cancelled_in (event.Replied k r ∷ told) = cancelled_in told
cancelled_in (event.Unanswered k ∷ told) = cancelled_in told
cancelled_in (event.Over close ∷ told) = cancelled_in told
cancelled_in (event.Broken b ∷ told) = cancelled_in told

-- the calls of ours that are told to have no reply
abbrev pub unanswered_in : List Event → List ℕ
unanswered_in [] = []
unanswered_in (event.Call n c ∷ told) = unanswered_in told
unanswered_in (event.Cancelled n ∷ told) = unanswered_in told
unanswered_in (event.Replied k r ∷ told) = unanswered_in told
unanswered_in (event.Unanswered k ∷ told) = k ∷ unanswered_in told
unanswered_in (event.Over close ∷ told) = unanswered_in told
unanswered_in (event.Broken b ∷ told) = unanswered_in told

-- the broken contents that are told
abbrev pub broken_told : List Event → List Broken
broken_told [] = []
broken_told (event.Call n c ∷ told) = broken_told told
broken_told (event.Cancelled n ∷ told) = broken_told told
broken_told (event.Replied k r ∷ told) = broken_told told
broken_told (event.Unanswered k ∷ told) = broken_told told
broken_told (event.Over close ∷ told) = broken_told told
broken_told (event.Broken b ∷ told) = b ∷ broken_told told

-- all else that is told
abbrev pub without_broken : List Event → List Event
without_broken [] = []
without_broken (event.Call n c ∷ told) = event.Call n c ∷ without_broken told
without_broken (event.Cancelled n ∷ told) = event.Cancelled n ∷ without_broken told
without_broken (event.Replied k r ∷ told) = event.Replied k r ∷ without_broken told
without_broken (event.Unanswered k ∷ told) = event.Unanswered k ∷ without_broken told
without_broken (event.Over close ∷ told) = event.Over close ∷ without_broken told
without_broken (event.Broken b ∷ told) = without_broken told

-- ---- broken contents

-- what of this is broken
abbrev pub broken_with : Happening → List Broken
broken_with (came o u) = broken_in o u
broken_with (called n o) = []
broken_with (called_all n os) = []
broken_with (noticed o) = []
broken_with (withdrew by k) = []
broken_with (answered n a) = []
broken_with (ended close) = []

-- the contents of a history that are broken, in their order
abbrev pub broken_of : History → List Broken
broken_of [] = []
broken_of (h ∷ past) = broken_of past ++ broken_with h

-- the same, where broken input isn't told
abbrev pub plain_at : Happening → Happening
plain_at (came o u) = came None u
plain_at (called n o) = called n o
plain_at (called_all n os) = called_all n os
plain_at (noticed o) = noticed o
plain_at (withdrew by k) = withdrew by k
plain_at (answered n a) = answered n a
plain_at (ended close) = ended close

abbrev pub plain : History → History
plain history = map plain_at history

-- ---- words of laws

-- at most one, and it is what the option says
abbrev pub AtMost : {A : Type 0} → List A → Option A → Type 0
AtMost [] o = ⊤
AtMost (x ∷ []) o = o ≡ Some x
AtMost (x ∷ y ∷ more) o = ⊥

-- Request n needs no answer: the conversation has MCP's cancels, and one of them reached it.
pub record IsLeft (conversation : Option Cancels) (n : ℕ) (history : History) : Type 0 where
  pub cancels : conversation ≡ Some Mcp
  pub cancelled : is_cancelled n (stream history) ≡ true

-- The host was told these events of the history, and call n among them.
pub record IsTold (history : History) (told : List Event) (n : ℕ) (call : Call) : Type 0 where
  pub untold : List Event
  pub events : events_of history ≡ told ++ untold
  pub front : List (ℕ × Call)
  pub rest : List (ℕ × Call)
  pub calls : calls_told told ≡ front ++ (n, call) ∷ rest

-- one of the unit's cancels reaches the request n, which is open there
pub record ReachedBy (past : History) (u : Unit) (n : ℕ) : Type 0 where
  pub front : List Entry
  pub id : Id
  pub rest : List Entry
  pub place : entries_in u ≡ front ++ Cancel id ∷ rest
  pub reached : is_reached id (came None (Batch front) ∷ past) n ≡ true
