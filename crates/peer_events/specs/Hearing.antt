-- A handler hears the replies that are on the board.
use Rattle.std.specs.Prelude.{ℕ, List, [], ◌∷◌, Bool, Option, Some, None, is_some}
use Rattle.std.specs.List.{list_all}
use Rattle.rpc_messages.specs.declared.reply.Reply.{Reply}
use Rattle.answer_desk.specs.State.{State, reply_of, without_reply}
use Rattle.handler_future.specs.State.{HandlerState, with_heard}

-- the board, and the handler
pub record Hearing : Type 0 where
  pub desk : State
  pub handler : HandlerState

abbrev pub hear_if : HandlerState → ℕ → Option Reply → HandlerState
hear_if h turn None = h
hear_if h turn (Some reply) = with_heard h turn reply

-- of these turns, in their order, those whose reply is there; each reply leaves the board
abbrev pub hear_turns : State → HandlerState → List ℕ → Hearing
hear_turns desk h [] = record { desk = desk; handler = h }
hear_turns desk h (turn ∷ turns) = hear_turns (without_reply desk h.number turn) (hear_if h turn (reply_of desk h.number turn)) turns

-- of all that it waits for
abbrev pub hear_waits : State → HandlerState → Hearing
hear_waits desk h = hear_turns desk h h.waits

-- A handler is ready where the replies to all that it waits for are there. One that was never polled waits for none.
abbrev pub is_ready : State → HandlerState → Bool
is_ready desk h = list_all (λ turn. is_some (reply_of desk h.number turn)) h.waits
