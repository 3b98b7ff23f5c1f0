-- What can't happen, and why.
use Rattle.std.specs.Prelude.{◌≡◌, ℕ, ◌+◌, ◌-◌, ◌^◌, ◌==◌, ◌&&◌, ◌||◌, not, nat_lt, List, [], ◌∷◌, ◌++◌, Bool, true, false, map, filter, length, Option, Some, None, if◌then◌else◌, ⊤}
use Rattle.std.specs.Option.{option_map_or}
use Rattle.connection_messages.specs.declared.answer.Answer.{Answer}
use Rattle.connection_messages.specs.declared.answer.Answer.TheVariants.{Standard}
use Rattle.connection_messages.specs.declared.cancels.Cancels.{Cancels}
use Rattle.connection_messages.specs.declared.cancels.Cancels.TheVariants.{Lsp, Mcp}
use Rattle.message_ids.specs.declared.standard.Standard.TheVariants.{Cancelled}
use Rattle.connection_history.specs.declared.refused.Refused.{Refused}
use Rattle.connection_history.specs.declared.refused.Refused.TheVariants.{NotOpen, NotWaiting, Over, Empty, Full}
use Rattle.connection_history.specs.Stream.{is_cancelled}
use Rattle.connection_history.specs.History.{Happening, came, called, called_all, noticed, withdrew, answered, ended, History, stream, is_over, is_open, key_count, caller_of, is_waiting, is_withdrawn, numbers_to}

-- the first whose test holds
abbrev pub first_of : List (Bool × Refused) → Option Refused
first_of [] = None
first_of (test ∷ tests) = if test.0 then Some test.1 else first_of tests

-- Keys are exact in every reader that holds numbers as floats of 64 bits.
abbrev pub most_keys : ℕ
most_keys = 2 ^ 53 - 1

-- a call of ours, or so many
abbrev pub call_refusal : History → ℕ → ℕ → Option Refused
call_refusal past n count =
    first_of ((not (is_open n past), NotOpen) ∷ (is_over past, Over) ∷ (count == 0, Empty) ∷ (nat_lt most_keys (key_count past + count), Full) ∷ [])

-- whether the conversation has cancels, and these
abbrev pub same_cancels : Cancels → Cancels → Bool
same_cancels Lsp Lsp = true
same_cancels Lsp Mcp = false
same_cancels Mcp Lsp = false
same_cancels Mcp Mcp = true

abbrev pub has_cancels : Cancels → Option Cancels → Bool
has_cancels by None = false
has_cancels by (Some cancels) = same_cancels by cancels

-- the cancels by which a conversation withdraws its calls; without any, every withdrawal is refused
abbrev pub by_of : Option Cancels → Cancels
by_of None = Lsp
by_of (Some cancels) = cancels

-- MCP 2025-06-18, "Cancellation": a request whose cancel has come needs no answer. LSP 3.17 wants one all the same.
abbrev pub may_be_left : Option Cancels → ℕ → History → Bool
may_be_left cancels n history = has_cancels Mcp cancels && is_cancelled n (stream history)

-- whether this closes a call without an answer
abbrev pub is_left : Option Answer → Bool
is_left None = true
is_left (Some a) = false

-- Why something can't happen after a history, where it can't. `cancels` says whose cancels the conversation has, if any.
abbrev pub refusal : Option Cancels → History → Happening → Option Refused
refusal cancels past (came o u) = first_of ((is_over past, Over) ∷ [])
refusal cancels past (called n o) = call_refusal past n 1
refusal cancels past (called_all n os) = call_refusal past n (length os)
refusal cancels past (noticed o) = None
refusal cancels past (withdrew by k) = first_of ((not (has_cancels by cancels && is_waiting k past && not (is_withdrawn k past)), NotWaiting) ∷ [])
refusal cancels past (answered n a) = first_of ((n == 0 || not (is_open n past), NotOpen) ∷ (is_left a && not (may_be_left cancels n past), Empty) ∷ [])
refusal cancels past (ended close) = first_of ((is_over past, Over) ∷ [])

-- Nothing in the history was refused when it happened.
abbrev pub IsLawful : Option Cancels → History → Type 0
IsLawful cancels [] = ⊤
IsLawful cancels (h ∷ past) = (refusal cancels past h ≡ None) × IsLawful cancels past

-- ---- a call is cancelled by the host

-- the history after more things happened, in their order
abbrev pub after : History → List Happening → History
after history [] = history
after history (h ∷ more) = after (h ∷ history) more

-- the calls made on behalf of n that wait and aren't withdrawn
abbrev pub is_withdrawable : ℕ → History → ℕ → Bool
is_withdrawable n history k = option_map_or (λ m. m == n) (caller_of k history) false && is_waiting k history && not (is_withdrawn k history)

abbrev pub withdrawable : ℕ → History → List ℕ
withdrawable n history = filter (is_withdrawable n history) (numbers_to (key_count history))

-- With cancels each of these is withdrawn.
abbrev pub withdrawals : Option Cancels → ℕ → History → List Happening
withdrawals None n history = []
withdrawals (Some by) n history = map (withdrew by) (withdrawable n history)

-- A call that needs no answer gets none, and any other the error `RequestCancelled` (LSP 3.17).
abbrev pub cancel_answer : Option Cancels → ℕ → History → Option Answer
cancel_answer cancels n history = if may_be_left cancels n history then None else Some (Standard Cancelled)

-- To cancel call n is to withdraw each of these, and then to answer n so.
abbrev pub cancel_of : Option Cancels → ℕ → History → List Happening
cancel_of cancels n history = withdrawals cancels n history ++ answered n (cancel_answer cancels n history) ∷ []
