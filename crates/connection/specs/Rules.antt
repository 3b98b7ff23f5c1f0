-- What a host may say by what it knows: the events that it was told, and what it has said.
use Rattle.std.specs.Prelude.{◌≡◌, ◌<◌, ℕ, zero, suc, ◌+◌, List, [], ◌∷◌, Bool, true, false, length, Option, Some, None, codes, ⊤}
use Rattle.json.specs.Json.{Json}
use Rattle.json.specs.Tree.{depth}
use Rattle.json_texts.specs.declared.json_text.TheConstants.{MOST_DEPTH_OUT}
use Rattle.json_texts.specs.Texts.{json_text}
use Rattle.connection_messages.specs.declared.call.Call.{Call}
use Rattle.connection_messages.specs.declared.cancels.Cancels.{Cancels}
use Rattle.connection_messages.specs.declared.outgoing.Outgoing.{Outgoing}
use Rattle.connection_messages.specs.declared.reply.Reply.{Reply}
use Rattle.connection_history.specs.declared.event.Event.{Event}
use Rattle.connection_history.specs.declared.event.Event.TheVariants as event
use Rattle.connection_history.specs.declared.refused.Refused.{Refused}
use Rattle.connection_history.specs.declared.refused.Refused.TheVariants.{Memory, NotWaiting, Over, Full}
use Rattle.connection_history.specs.History.{Happening, came, called, called_all, noticed, withdrew, answered, ended, History, answer_to, caller_of, reply_to, is_over, is_withdrawn, key_count}
use Rattle.connection_history.specs.Refusals.{most_keys, may_be_left}
use Rattle.connection_history.specs.Told.{IsTold, replies_told, unanswered_told}

-- whether the end of the input is told
abbrev pub over_told : List Event → Bool
over_told [] = false
over_told (event.Call n c ∷ told) = over_told told
over_told (event.Cancelled n ∷ told) = over_told told
over_told (event.Replied k r ∷ told) = over_told told
over_told (event.Unanswered k ∷ told) = over_told told
over_told (event.Over close ∷ told) = true
over_told (event.Broken b ∷ told) = over_told told

-- The host was told of call n, and hasn't answered it.
pub record IsHeld (history : History) (told : List Event) (n : ℕ) : Type 0 where
  pub call : Call
  pub is_told : IsTold history told n call
  pub unanswered : answer_to n history ≡ None

-- on whose behalf the host may call: its own, or that of a call that it holds
abbrev pub IsFor : History → List Event → ℕ → Type 0
IsFor history told zero = ⊤
IsFor history told (suc n) = IsHeld history told (suc n)

-- The host has made our call k for a number that it still holds, and hasn't withdrawn it; it was told neither a reply to it
-- nor that there is none.
pub record IsAwaited (history : History) (told : List Event) (k : ℕ) : Type 0 where
  pub number : ℕ
  pub made : caller_of k history ≡ Some number
  pub held : IsFor history told number
  pub wanted : is_withdrawn k history ≡ false
  pub unreplied : replies_told k told ≡ []
  pub unanswered : unanswered_told k told ≡ 0

-- The rules: what a host may say. Only `cancel` closes a call without an answer, where MCP's cancel has come.
abbrev pub KeepsRules : Option Cancels → History → List Event → Happening → Type 0
KeepsRules cancels history told (came o u) = ⊥
KeepsRules cancels history told (called n o) = IsFor history told n × (over_told told ≡ false)
KeepsRules cancels history told (called_all n os) = IsFor history told n × (over_told told ≡ false) × (0 < length os)
KeepsRules cancels history told (noticed o) = ⊤
KeepsRules cancels history told (withdrew by k) = (cancels ≡ Some by) × IsAwaited history told k
KeepsRules cancels history told (answered n (Some a)) = IsHeld history told n
KeepsRules cancels history told (answered n None) = IsHeld history told n × (may_be_left cancels n history ≡ true)
KeepsRules cancels history told (ended close) = ⊥

-- Why a host that keeps the rules may be refused: for memory; and else by what it can't know yet, or keys that are full.
pub data IsExcused (history : History) : Happening → Refused → Type 0 where
  memory : (h : Happening) → IsExcused history h Memory
  -- the end of the input was reached, and isn't told yet
  over : (n : ℕ) (o : Outgoing) → is_over history ≡ true → IsExcused history (called n o) Over
  all_over : (n : ℕ) (os : List Outgoing) → is_over history ≡ true → IsExcused history (called_all n os) Over
  waits_no_more : (by : Cancels) (k : ℕ) → is_over history ≡ true → IsExcused history (withdrew by k) NotWaiting
  -- the reply to the call came, and isn't told yet
  replied : (by : Cancels) (k : ℕ) (reply : Reply) → reply_to k history ≡ Some reply → IsExcused history (withdrew by k) NotWaiting
  -- there are no more keys
  full : (n : ℕ) (o : Outgoing) → most_keys < key_count history + 1 → IsExcused history (called n o) Full
  all_full : (n : ℕ) (os : List Outgoing) → most_keys < key_count history + length os → IsExcused history (called_all n os) Full

-- It is null, where params that are null are told.
abbrev pub IsToldNull : Bool → List ℕ → Type 0
IsToldNull told text = (told ≡ true) × (text ≡ codes "null")

-- The text of a value that nests deeper than what is said may.
abbrev pub IsDeep : List ℕ → Type 0
IsDeep text = (j : Json) × (json_text j ≡ text) × (MOST_DEPTH_OUT < depth j)
