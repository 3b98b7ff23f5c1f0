-- A history, and what stands after it.
use Rattle.std.specs.Prelude.{ℕ, zero, suc, ◌==◌, ◌&&◌, ◌||◌, not, List, [], ◌∷◌, ◌++◌, Bool, true, false, map, filter, length, slice_get, Option, Some, None, is_some, if◌then◌else◌}
use Rattle.std.specs.Option.{option_map_or, is_none}
use Rattle.connection_messages.specs.declared.answer.Answer.{Answer}
use Rattle.connection_messages.specs.declared.cancels.Cancels.{Cancels}
use Rattle.connection_messages.specs.declared.cancels.Cancels.TheVariants.{Lsp, Mcp}
use Rattle.connection_messages.specs.declared.entry.Entry.{Entry}
use Rattle.connection_messages.specs.declared.outgoing.Outgoing.{Outgoing}
use Rattle.connection_messages.specs.declared.reply.Reply.{Reply}
use Rattle.connection_messages.specs.declared.unit.Unit.{Unit}
use Rattle.connection_history.specs.declared.close.Close.{Close}
use Rattle.connection_history.specs.Stream.{entries_along, call_numbered, first_reply}

-- Where a content that came stands among the bytes that were fed: before its first byte there are so many. And its first bytes.
pub record Origin : Type 0 where
  pub place : ℕ
  pub start : List ℕ

-- One thing that came, or that the host said.
pub data Happening : Type 0 where
  -- a unit came; and where broken input is told, its content's origin
  came : Option Origin → Unit → Happening
  -- a call of ours on behalf of the open call n; 0 is the host itself
  called : ℕ → Outgoing → Happening
  -- several, in one array
  called_all : ℕ → List Outgoing → Happening
  -- a notification of ours
  noticed : Outgoing → Happening
  -- our call k isn't wanted any more; the notification that says so is one of these cancels
  withdrew : Cancels → ℕ → Happening
  -- the answer to call n; for a notification it says that the host is done with it. None closes the call without an answer.
  answered : ℕ → Option Answer → Happening
  -- the input is over, in this way
  ended : Close → Happening

-- All that happened, the latest first.
abbrev pub History : Type 0
History = List Happening

-- what the earlier part gives, or else the later
abbrev pub or_else : {A : Type 0} → Option A → Option A → Option A
or_else (Some x) later = Some x
or_else None later = later

-- 1, 2, .., n
abbrev pub numbers_to : ℕ → List ℕ
numbers_to zero = []
numbers_to (suc n) = numbers_to n ++ suc n ∷ []

-- ---- what came

abbrev pub units_at : Happening → List Unit
units_at (came o u) = u ∷ []
units_at (called n o) = []
units_at (called_all n os) = []
units_at (noticed o) = []
units_at (withdrew by k) = []
units_at (answered n a) = []
units_at (ended close) = []

-- the units that came, in their order
abbrev pub units_of : History → List Unit
units_of [] = []
units_of (h ∷ past) = units_of past ++ units_at h

abbrev pub origins_at : Happening → List (Option Origin)
origins_at (came o u) = o ∷ []
origins_at (called n o) = []
origins_at (called_all n os) = []
origins_at (noticed o) = []
origins_at (withdrew by k) = []
origins_at (answered n a) = []
origins_at (ended close) = []

-- the origins of their contents, where they are known
abbrev pub origins_of : History → List (Option Origin)
origins_of [] = []
origins_of (h ∷ past) = origins_of past ++ origins_at h

-- all entries that came, in their order
abbrev pub stream : History → List Entry
stream history = entries_along (units_of history)

abbrev pub ends : Happening → Bool
ends (came o u) = false
ends (called n o) = false
ends (called_all n os) = false
ends (noticed o) = false
ends (withdrew by k) = false
ends (answered n a) = false
ends (ended close) = true

abbrev pub is_over : History → Bool
is_over [] = false
is_over (h ∷ past) = ends h || is_over past

abbrev pub close_at : Happening → Option Close
close_at (came o u) = None
close_at (called n o) = None
close_at (called_all n os) = None
close_at (noticed o) = None
close_at (withdrew by k) = None
close_at (answered n a) = None
close_at (ended close) = Some close

-- how the input came to its end
abbrev pub close_of : History → Option Close
close_of [] = None
close_of (h ∷ past) = or_else (close_of past) (close_at h)

-- ---- calls of the other side

abbrev pub answer_at : ℕ → Happening → Option (Option Answer)
answer_at n (came o u) = None
answer_at n (called m o) = None
answer_at n (called_all m os) = None
answer_at n (noticed o) = None
answer_at n (withdrew by k) = None
answer_at n (answered m a) = if m == n then Some a else None
answer_at n (ended close) = None

-- the answer to call n; of a call that was closed without one it is `Some None`
abbrev pub answer_to : ℕ → History → Option (Option Answer)
answer_to n [] = None
answer_to n (h ∷ past) = or_else (answer_to n past) (answer_at n h)

-- Call n is open from when it came until it is answered. Number 0, the host itself, is always open.
abbrev pub is_open : ℕ → History → Bool
is_open zero history = true
is_open (suc n) history = is_some (call_numbered (suc n) (stream history)) && is_none (answer_to (suc n) history)

-- ---- calls of ours

abbrev pub callers_at : Happening → List ℕ
callers_at (came o u) = []
callers_at (called n o) = n ∷ []
callers_at (called_all n os) = map (λ o. n) os
callers_at (noticed o) = []
callers_at (withdrew by k) = []
callers_at (answered n a) = []
callers_at (ended close) = []

-- Our calls have the keys 1, 2, .. in the order in which they are said. These are the numbers on whose behalf they were made.
abbrev pub callers : History → List ℕ
callers [] = []
callers (h ∷ past) = callers past ++ callers_at h

abbrev pub key_count : History → ℕ
key_count history = length (callers history)

-- the number on whose behalf our call k was made
abbrev pub caller_of : ℕ → History → Option ℕ
caller_of zero history = None
caller_of (suc k) history = slice_get (callers history) k

-- the reply with the key k that came in a unit, where our call was made before it
abbrev pub reply_at : ℕ → History → Happening → Option Reply
reply_at k past h = if is_some (caller_of k past) then first_reply k (entries_along (units_at h)) else None

-- the reply to our call k is the first with its key that came after the call
abbrev pub reply_to : ℕ → History → Option Reply
reply_to k [] = None
reply_to k (h ∷ past) = or_else (reply_to k past) (reply_at k past h)

-- LSP 3.17, "Cancellation Support": a request that is cancelled still gets its response. MCP 2025-06-18, "Cancellation": it
-- gets none, and its sender ignores one that comes all the same.
abbrev pub ends_wait : Cancels → Bool
ends_wait Lsp = false
ends_wait Mcp = true

-- whether this gives up our call k
abbrev pub gives_up : ℕ → Happening → Bool
gives_up k (came o u) = false
gives_up k (called n o) = false
gives_up k (called_all n os) = false
gives_up k (noticed o) = false
gives_up k (withdrew by j) = ends_wait by && (j == k)
gives_up k (answered n a) = false
gives_up k (ended close) = false

-- whether our call k was given up after it was made
abbrev pub is_given_up : ℕ → History → Bool
is_given_up k [] = false
is_given_up k (h ∷ past) = (gives_up k h && is_some (caller_of k past)) || is_given_up k past

-- Our call k waits from when it was made, while its number is open, until its reply comes, the input is over or it is given
-- up.
abbrev pub is_waiting : ℕ → History → Bool
is_waiting k history =
    option_map_or (λ n. is_open n history) (caller_of k history) false && is_none (reply_to k history) && not (is_over history) && not (is_given_up k history)

-- our calls that wait, by their keys
abbrev pub waiting : History → List ℕ
waiting history = filter (λ k. is_waiting k history) (numbers_to (key_count history))

abbrev pub withdraws : ℕ → Happening → Bool
withdraws k (came o u) = false
withdraws k (called n o) = false
withdraws k (called_all n os) = false
withdraws k (noticed o) = false
withdraws k (withdrew by j) = j == k
withdraws k (answered n a) = false
withdraws k (ended close) = false

-- whether our call k was withdrawn, by either notification
abbrev pub is_withdrawn : ℕ → History → Bool
is_withdrawn k [] = false
is_withdrawn k (h ∷ past) = withdraws k h || is_withdrawn k past
