-- How an outgoing request ends.
use Rattle.std.specs.Prelude.{◌≡◌, ℕ, ◌==◌, ◌&&◌, List, [], ◌∷◌, ◌++◌, true, Option, Some, None, option_map, if◌then◌else◌}
use Rattle.connection_messages.specs.declared.reply.Reply.{Reply}
use Rattle.connection_history.specs.Stream.{entries_in, first_reply}
use Rattle.connection_history.specs.History.{Happening, came, called, called_all, noticed, withdrew, answered, ended, History, caller_of, ends_wait, is_waiting}

-- The ways in which a request ends.
pub data Ending : Type 0 where
  -- its response came
  replied : Reply → Ending
  -- the input ended without one
  unanswered : Ending
  -- its host gave it up: it withdrew it by MCP's cancel
  given_up : Ending
  -- its host answered the call on whose behalf it was made
  caller_closed : Ending

-- The way in which this ends the request with the key k that was made on behalf of the call n, if it ends it.
abbrev pub ending_at : ℕ → ℕ → Happening → Option Ending
ending_at k n (came o u) = option_map replied (first_reply k (entries_in u))
ending_at k n (called m o) = None
ending_at k n (called_all m os) = None
ending_at k n (noticed o) = None
ending_at k n (withdrew by j) = if ends_wait by && (j == k) then Some given_up else None
ending_at k n (answered m a) = if m == n then Some caller_closed else None
ending_at k n (ended close) = Some unanswered

-- The request waited for its response until this happened, which ended it so.
pub record IsEnded (k : ℕ) (history : History) (ending : Ending) : Type 0 where
  pub more : List Happening
  pub happening : Happening
  pub past : History
  pub whole : history ≡ more ++ happening ∷ past
  pub waited : is_waiting k past ≡ true
  pub caller : ℕ
  pub made : caller_of k past ≡ Some caller
  pub is : ending_at k caller happening ≡ Some ending

-- the responses that are told of a request that ended so
abbrev pub replies_of : Ending → List Reply
replies_of (replied r) = r ∷ []
replies_of unanswered = []
replies_of given_up = []
replies_of caller_closed = []

-- and how often it is told to have none
abbrev pub unanswered_of : Ending → ℕ
unanswered_of (replied r) = 0
unanswered_of unanswered = 1
unanswered_of given_up = 0
unanswered_of caller_closed = 0
