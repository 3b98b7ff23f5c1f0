-- What the host says, and how it is answered.
use Rattle.std.specs.Prelude.{◌≡◌, ◌≢◌, ◌⊎◌, ℕ, ℤ, ◌+◌, ◌==◌, List, [], ◌∷◌, true, false, Option, Some, None, Ok, Err, if◌then◌else◌}
use Rattle.content_streams.specs.declared.ending.HowEnded.{HowEnded}
use Rattle.content_streams.specs.declared.ending.HowEnded.TheVariants.{Closed, ReadFailed}
use Rattle.connection_messages.specs.declared.answer.Answer.{Answer}
use Rattle.connection_messages.specs.declared.answer.Answer.TheVariants.{Result, Error, Standard}
use Rattle.connection_messages.specs.declared.cancels.Cancels.{Cancels}
use Rattle.connection_messages.specs.declared.outgoing.Outgoing.{Outgoing}
use Rattle.connection_history.specs.declared.event.Event.{Event}
use Rattle.connection_history.specs.declared.refused.Refused.{Refused}
use Rattle.connection_history.specs.declared.refused.Refused.TheVariants.{NotOpen, Over}
use Rattle.connection_history.specs.History.{Happening, History, called, called_all, noticed, withdrew, answered, key_count}
use Rattle.connection_history.specs.Refusals.{refusal, after, by_of, cancel_answer, cancel_of}
use Rattle.connection_desk.specs.Desks.{has_call}
use Rattle.connection.specs.Connections.{Connection, StandsAfter, IsRefusal, asked}
use Rattle.host_calls.specs.declared.code.Why.{Why}
use Rattle.host_calls.specs.declared.code.Why.TheVariants.{Refused as By, Settings}
use Rattle.host_calls.specs.declared.outlet.Outlet.{Outlet}
use Rattle.host_calls.specs.Codes.{Said}
use Rattle.host_calls.specs.Passed.{IsJson, IsntJson, IsFailure, IsNoFailure, IsOutgoing, IsNoOutgoing, IsMemory}
use Rattle.host_calls.specs.Retaining.{Retains}
use Rattle.host_calls.specs.Batches.{Part, parts, fit, AreOutgoings, AreNoOutgoings}

-- ---- what holds of any connection

-- The connection and the event that waits are the same; only the room in which texts are read may have grown.
abbrev pub Keeps : Outlet → Outlet → Type 0
Keeps a b = (b.connection ≡ a.connection) × (b.next ≡ a.next)

-- This happens, and nothing else: it isn't refused, and comes behind all that has happened.
abbrev pub Happens : Connection → Connection → Happening → Type 0
Happens c d it = Retains c d × ((history : History) (told : List Event) → StandsAfter c history told →
    (refusal c.settings.cancels history it ≡ None) × StandsAfter d (it ∷ history) told)

-- The connection itself refuses it.
abbrev pub Refuses : Connection → Happening → Why → Type 0
Refuses c it why = (r : Refused) × (why ≡ By r) ×
    ((history : History) (told : List Event) → StandsAfter c history told → IsRefusal r (refusal c.settings.cancels history it))

-- the next key
abbrev pub IsKey : Connection → ℕ → Type 0
IsKey c key = (history : History) (told : List Event) → StandsAfter c history told → key ≡ key_count history + 1

-- The number isn't open, or isn't the host's own 0.
abbrev pub IsShut : Connection → ℕ → Why → Type 0
IsShut c n why = (has_call n c.desk.state ≡ false) × (why ≡ By NotOpen)

-- The number is open, or the host's own 0.
abbrev pub IsOpen : Connection → ℕ → Type 0
IsOpen c n = has_call n c.desk.state ≡ true

-- ---- the end

abbrev pub how_of : ℕ → Option HowEnded
how_of n = if n == 0 then Some Closed else (if n == 1 then Some ReadFailed else None)

abbrev pub EndRefused : Outlet → ℕ → Why → Type 0
EndRefused a n why = ((why ≡ Settings) × (how_of n ≡ None)) ⊎ ((why ≡ By Over) × (how_of n ≢ None) × (a.connection.stream.ended ≢ None))

abbrev pub HasEnded : Outlet → Outlet → ℕ → Said → Type 0
HasEnded a b n (Ok _) = (how : HowEnded) × (how_of n ≡ Some how) × (a.connection.stream.ended ≡ None) ×
    (b ≡ record a { connection = record a.connection { stream = record a.connection.stream { ended = Some how } } })
HasEnded a b n (Err why) = (b ≡ a) × EndRefused a n why

-- ---- calls

-- The call was made: it happened, under the next key, and the event that waits is the same.
pub record IsMade (a b : Outlet) (n : ℕ) (method params : List ℕ) (its_key : ℕ) : Type 0 where
  pub waits : b.next ≡ a.next
  pub key : IsKey a.connection its_key
  pub outgoing : Outgoing
  pub read : IsOutgoing method params outgoing
  pub happens : Happens a.connection b.connection (called n outgoing)

-- why it isn't made: the number isn't open; or there is no such call; or the connection refuses it
abbrev pub CallRefused : Connection → ℕ → List ℕ → List ℕ → Why → Type 0
CallRefused c n method params why = IsShut c n why ⊎ (IsOpen c n × IsNoOutgoing method params why) ⊎ ((o : Outgoing) × IsOutgoing method params o × Refuses c (called n o) why)

-- The call wasn't made, and nothing has changed.
pub record IsntMade (a b : Outlet) (n : ℕ) (method params : List ℕ) (k its_key : ℕ) (why : Why) : Type 0 where
  pub keeps : Keeps a b
  pub key : its_key ≡ k
  pub cause : CallRefused a.connection n method params why

abbrev pub HasCalled : Outlet → Outlet → ℕ → List ℕ → List ℕ → ℕ → ℕ → Said → Type 0
HasCalled a b n method params k key (Ok _) = IsMade a b n method params key
HasCalled a b n method params k key (Err why) = IsntMade a b n method params k key why

-- why the calls of these methods and params aren't made
abbrev pub CallsRefused : Connection → ℕ → List Part → Why → Type 0
CallsRefused c n ps why = IsShut c n why ⊎ (IsOpen c n × AreNoOutgoings ps why) ⊎
    ((os : List Outgoing) × AreOutgoings ps os × Refuses c (called_all n os) why)

abbrev pub HasCalledParts : Outlet → Outlet → ℕ → List Part → ℕ → ℕ → Said → Type 0
HasCalledParts a b n ps k key (Ok _) = (b.next ≡ a.next) × IsKey a.connection key ×
    ((os : List Outgoing) × AreOutgoings ps os × Happens a.connection b.connection (called_all n os))
HasCalledParts a b n ps k key (Err why) = Keeps a b × (key ≡ k) × CallsRefused a.connection n ps why

abbrev pub HasCalledAll : Outlet → Outlet → ℕ → List ℕ → List ℕ → ℕ → ℕ → Said → Type 0
HasCalledAll a b n bytes lengths k key (Ok _) = (b.next ≡ a.next) × (fit bytes lengths ≡ true) × IsKey a.connection key ×
    ((os : List Outgoing) × AreOutgoings (parts bytes lengths) os × Happens a.connection b.connection (called_all n os))
HasCalledAll a b n bytes lengths k key (Err why) = Keeps a b × (key ≡ k) ×
    (((why ≡ Settings) × (fit bytes lengths ≡ false)) ⊎ ((fit bytes lengths ≡ true) × CallsRefused a.connection n (parts bytes lengths) why))

abbrev pub HasNotified : Outlet → Outlet → List ℕ → List ℕ → Said → Type 0
HasNotified a b method params (Ok _) = (b.next ≡ a.next) × Retains a.connection b.connection × ((o : Outgoing) × IsOutgoing method params o ×
    ((history : History) (told : List Event) → StandsAfter a.connection history told → StandsAfter b.connection (noticed o ∷ history) told))
HasNotified a b method params (Err why) = Keeps a b × (IsMemory why ⊎ IsNoOutgoing method params why)

abbrev pub HasWithdrawn : Outlet → Outlet → ℕ → Said → Type 0
HasWithdrawn a b key (Ok _) = (b.next ≡ a.next) × Happens a.connection b.connection (withdrew (by_of a.connection.settings.cancels) key)
HasWithdrawn a b key (Err why) = (b ≡ a) × Refuses a.connection (withdrew (by_of a.connection.settings.cancels) key) why

-- ---- answers

-- no bytes close a notification, and any answer does, since none is written
abbrev pub IsAnswer : Connection → ℕ → List ℕ → Answer → Type 0
IsAnswer c n bytes (Result text) = IsJson bytes text
IsAnswer c n bytes (Standard it) = (bytes ≡ []) × (asked c n ≡ Some false)
IsAnswer c n bytes (Error e) = ⊥

abbrev pub IsntOpen : Connection → ℕ → Why → Type 0
IsntOpen c n why = (asked c n ≡ None) × (why ≡ By NotOpen)

-- what is to be read: of a notification, no bytes aren't
abbrev pub IsRead : Connection → ℕ → List ℕ → Type 0
IsRead c n bytes = (asked c n ≡ Some true) ⊎ ((asked c n ≡ Some false) × (bytes ≢ []))

abbrev pub IsNoAnswer : Connection → ℕ → List ℕ → Why → Type 0
IsNoAnswer c n bytes why = IsntOpen c n why ⊎ (IsRead c n bytes × IsntJson bytes why)

abbrev pub HasAnswered : Outlet → Outlet → ℕ → List ℕ → Said → Type 0
HasAnswered a b n bytes (Ok _) = (b.next ≡ a.next) × ((it : Answer) × IsAnswer a.connection n bytes it × Happens a.connection b.connection (answered n (Some it)))
HasAnswered a b n bytes (Err why) = Keeps a b ×
    (IsNoAnswer a.connection n bytes why ⊎ ((it : Answer) × IsAnswer a.connection n bytes it × Refuses a.connection (answered n (Some it)) why))

abbrev pub HasFailed : Outlet → Outlet → ℕ → ℤ → List ℕ → List ℕ → Said → Type 0
HasFailed a b n code message bytes (Ok _) = (b.next ≡ a.next) ×
    ((it : Answer) × IsFailure code message bytes it × Happens a.connection b.connection (answered n (Some it)))
HasFailed a b n code message bytes (Err why) = Keeps a b ×
    (IsntOpen a.connection n why ⊎ ((asked a.connection n ≢ None) × IsNoFailure message bytes why) ⊎ ((it : Answer) × IsFailure code message bytes it × Refuses a.connection (answered n (Some it)) why))

-- why this call can't be cancelled after a history, where it can't
abbrev pub cancel_refusal : Option Cancels → ℕ → History → Option Refused
cancel_refusal cancels n history = refusal cancels history (answered n (cancel_answer cancels n history))

abbrev pub HasCancelled : Outlet → Outlet → ℕ → Said → Type 0
HasCancelled a b n (Ok _) = (b.next ≡ a.next) × Retains a.connection b.connection × ((history : History) (told : List Event) → StandsAfter a.connection history told →
    (cancel_refusal a.connection.settings.cancels n history ≡ None) × StandsAfter b.connection (after history (cancel_of a.connection.settings.cancels n history)) told)
HasCancelled a b n (Err why) = (b ≡ a) × ((r : Refused) × (why ≡ By r) ×
    ((history : History) (told : List Event) → StandsAfter a.connection history told → IsRefusal r (cancel_refusal a.connection.settings.cancels n history)))
