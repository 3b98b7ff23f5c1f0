-- The evaluation of a method: its messages and its answer, by recursion on its steps, where the reply to each call is
-- known from the start.
use Rattle.std.specs.Prelude.{ℕ, zero, suc, ◌+◌, List, [], ◌∷◌, ◌++◌, length, codes, Result, Ok, Err}
use Rattle.serde_json.specs.Data.{Data, null, Members, member, no_members, put}
use Rattle.rpc_messages.specs.declared.reply.Reply.{Reply}
use Rattle.rpc_messages.specs.declared.reply.Reply.TheVariants.{Done}
use Rattle.method_templates.specs.Steps.{Step}
use Rattle.handler_future.specs.declared.act.Act.{Act}
use Rattle.handler_future.specs.declared.act.Act.TheVariants as act
use Rattle.handler_future.specs.declared.message.Message.{Message}
use Rattle.handler_future.specs.declared.message.Message.TheVariants as message
use Rattle.handler_future.specs.Act.{act_of}
use Rattle.handler_future.specs.ReplyValues.{register_of, value_of_replies}

-- the reply to the call of each turn
abbrev pub Replies : Type 0
Replies = ℕ → Reply

pub record Evaluation : Type 0 where
  pub messages : List Message
  pub answer : Reply

-- the evaluation with these messages before
abbrev pub preceded : List Message → Evaluation → Evaluation
preceded ms e = record { messages = ms ++ e.messages; answer = e.answer }

abbrev pub ended : Reply → Evaluation
ended r = record { messages = []; answer = r }

-- how it goes on: with these registers and this next turn, after so many further steps were passed over
abbrev pub Onward : Type 0
Onward = ℕ → Members → ℕ → Evaluation

-- the replies to so many calls from a turn on
abbrev pub replies_from : Replies → ℕ → ℕ → List Reply
replies_from R t zero = []
replies_from R t (suc k) = R t ∷ replies_from R (t + 1) k

-- the value goes into the step's register, or the reply ends the method
abbrev pub after_replies : Step → Members → ℕ → Onward → Result Data Reply → Evaluation
after_replies s registers t onward (Ok d) = onward 0 (put (register_of s) d registers) t
after_replies s registers t onward (Err r) = ended r

-- what the step has done is told, and what follows it
abbrev pub carried : Replies → Step → Members → ℕ → Onward → Act → Evaluation
carried R s registers t onward (act.Put d) = onward 0 (put (register_of s) d registers) t
carried R s registers t onward (act.Skip n) = onward n registers t
carried R s registers t onward (act.Notify o) = preceded (message.Notice o ∷ []) (onward 0 registers t)
carried R s registers t onward (act.Call o) =
    preceded (message.Call t o ∷ []) (after_replies s registers (t + 1) onward (value_of_replies s (replies_from R t 1)))
carried R s registers t onward (act.Calls os) =
    preceded (message.Calls t os ∷ []) (after_replies s registers (t + length os) onward (value_of_replies s (replies_from R t (length os))))
carried R s registers t onward (act.End r) = ended r

-- With these replies, so many steps to pass over, these steps left, these registers and this next turn.
abbrev pub eval : Replies → ℕ → List Step → Members → ℕ → Evaluation
eval R k [] registers t = ended (Done null)
eval R zero (s ∷ ss) registers t = carried R s registers t (λ k registers t. eval R k ss registers t) (act_of registers s)
eval R (suc k) (s ∷ ss) registers t = eval R k ss registers t

-- a method's steps, and the params of the call that runs it, null where it has none
pub record Program : Type 0 where
  pub steps : List Step
  pub params : Data

abbrev pub first_registers : Program → Members
first_registers p = member (codes "params") p.params no_members

-- A method begins with `params` as its only register, and its first call has turn 1.
abbrev pub evaluation : Replies → Program → Evaluation
evaluation R p = eval R 0 p.steps (first_registers p) 1
