-- How far a method comes with the replies that were heard.
use Rattle.std.specs.Prelude.{◌≡◌, ℕ, ◌+◌, ◌<◌, ◌≤◌, ◌==◌, Option, Some, None, is_some, unwrap_or, List, [], ◌∷◌, length, Bool, true, not, if◌then◌else◌}
use Rattle.std.specs.List.{filter, list_all, range_with_len}
use Rattle.rpc_messages.specs.declared.reply.Reply.{Reply}
use Rattle.rpc_messages.specs.declared.reply.Reply.TheVariants.{Standard}
use Rattle.message_ids.specs.declared.standard.Standard.TheVariants.{NoReply}
use Rattle.handler_future.specs.declared.message.Message.{Message}
use Rattle.handler_future.specs.declared.message.Message.TheVariants as message
use Rattle.handler_future.specs.Evaluation.{Replies, Program, evaluation}

-- replies with their turns, in the order in which they were heard
abbrev pub Heard : Type 0
Heard = List (ℕ × Reply)

-- the reply that was heard to the call of a turn
abbrev pub find_heard : Heard → ℕ → Option Reply
find_heard [] t = None
find_heard (e ∷ es) t = if e.0 == t then Some e.1 else find_heard es t

abbrev pub is_heard : Heard → ℕ → Bool
is_heard heard t = is_some (find_heard heard t)

-- the reply of each turn that was heard, and `No reply` for the others
abbrev pub heard_replies : Heard → Replies
heard_replies heard t = unwrap_or (find_heard heard t) (Standard NoReply)

-- the map gives each turn that was heard its reply
pub record AgreesWith (heard : Heard) (R : Replies) : Type 0 where
  pub same : (t : ℕ) → is_heard heard t ≡ true → R t ≡ heard_replies heard t

-- the turns of a message's calls
abbrev pub turns_of : Message → List ℕ
turns_of (message.Call t o) = t ∷ []
turns_of (message.Calls t os) = range_with_len t (length os)
turns_of (message.Notice o) = []

-- the messages up to and including the first with a turn that isn't known; all of them where there is none
abbrev pub until_waiting : (ℕ → Bool) → List Message → List Message
until_waiting is_known [] = []
until_waiting is_known (m ∷ ms) = m ∷ (if list_all is_known (turns_of m) then until_waiting is_known ms else [])

-- The messages that can be made with what was heard.
abbrev pub front : Program → Heard → List Message
front p heard = until_waiting (is_heard heard) (evaluation (heard_replies heard) p).messages

-- it is no empty batch, and its turns lie in 1 to `most`
abbrev pub HasTurnsUpTo : ℕ → Message → Type 0
HasTurnsUpTo most (message.Call t o) = (1 ≤ t) × (t ≤ most)
HasTurnsUpTo most (message.Calls t os) = (1 ≤ t) × (0 < length os) × (t + length os ≤ most + 1)
HasTurnsUpTo most (message.Notice o) = Unit {0}

-- those of the turns that weren't heard
abbrev pub unheard : Heard → List ℕ → List ℕ
unheard heard turns = filter (λ t. not (is_heard heard t)) turns

-- every turn of every message was heard
abbrev pub are_heard : Heard → List Message → Bool
are_heard heard ms = list_all (λ m. list_all (is_heard heard) (turns_of m)) ms

-- the last message's turns
abbrev pub last_turns : List Message → List ℕ
last_turns [] = []
last_turns (m ∷ []) = turns_of m
last_turns (m ∷ n ∷ ms) = last_turns (n ∷ ms)
