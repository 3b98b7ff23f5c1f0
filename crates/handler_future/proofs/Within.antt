-- The turns of an evaluation's messages.
use Rattle.std.proofs.Common.{◌≡◌, ℕ, zero, suc, ◌+◌, ◌≤◌, List, [], ◌∷◌, length, refl, ap, sym, arith, Result, Ok, Err}
use Rattle.std.specs.Prelude.{All}
use Rattle.std.proofs.lemmas.List.Sums.{sum_by-cons}
use Rattle.std.proofs.lemmas.List.Elements.{All-nil, All-cons, All-head, All-tail}
use Rattle.serde_json.specs.Data.{Data, Members}
use Rattle.rpc_messages.specs.declared.reply.Reply.{Reply}
use Rattle.method_templates.specs.Steps.{Step, KeepsLimits, AreWithinLimits, calls_in, calls_of}
use Rattle.handler_future.specs.declared.act.Act.{Act}
use Rattle.handler_future.specs.declared.act.Act.TheVariants as act
use Rattle.handler_future.specs.declared.message.Message.TheVariants as message
use Rattle.handler_future.specs.Act.{act_of}
use Rattle.handler_future.specs.Evaluation.{Replies, Onward, Program, evaluation, eval, carried, after_replies, replies_from, first_registers}
use Rattle.handler_future.specs.Front.{HasTurnsUpTo}
use Rattle.handler_future.specs.ReplyValues.{value_of_replies}
use Rattle.handler_future.proofs.Asks.{asked, asks, act-within}

module _ (R : Replies) (most : ℕ) where
  after_replies-within : (s : Step) (registers : Members) (t last : ℕ) (onward : Onward) → 1 ≤ t → t ≤ last
      → ((k : ℕ) (registers : Members) (t : ℕ) → 1 ≤ t → t ≤ last → All (HasTurnsUpTo most) (onward k registers t).messages)
      → (r : Result Data Reply) → All (HasTurnsUpTo most) (after_replies s registers t onward r).messages
  after_replies-within s registers t last onward one below keeps (Ok d) = keeps 0 _ t one below
  after_replies-within s registers t last onward one below keeps (Err r) = All-nil (HasTurnsUpTo most)

  carried-within : (s : Step) (registers : Members) (t : ℕ) (onward : Onward) → KeepsLimits s → 1 ≤ t → t + calls_in s ≤ most + 1
      → ((k : ℕ) (registers : Members) (u : ℕ) → 1 ≤ u → u ≤ t + calls_in s → All (HasTurnsUpTo most) (onward k registers u).messages)
      → (a : Act) → a ≡ act_of registers s → All (HasTurnsUpTo most) (carried R s registers t onward a).messages
  carried-within s registers t onward limits one few keeps (act.Put d) is = keeps 0 _ t one (omega arith)
  carried-within s registers t onward limits one few keeps (act.Skip n) is = keeps n registers t one (omega arith)
  carried-within s registers t onward limits one few keeps (act.Notify o) is = All-cons (HasTurnsUpTo most) (message.Notice o) _ tt (keeps 0 registers t one (omega arith))
  carried-within s registers t onward limits one few keeps (act.Call o) is =
      let w = act-within registers s limits in let n : asked (act_of registers s) ≡ 1 = ap asked (sym is) in let m = w.most in
      All-cons (HasTurnsUpTo most) (message.Call t o) _ (one, omega arith)
      (after_replies-within s registers (t + 1) (t + calls_in s) onward (omega arith) (omega arith) keeps (value_of_replies s (replies_from R t 1)))
  carried-within s registers t onward limits one few keeps (act.Calls os) is =
      let w = act-within registers s limits in let n : asked (act_of registers s) ≡ length os = ap asked (sym is) in let m = w.most in
      let some : 1 ≤ asked (act_of registers s) = w.some (ap asks (sym is)) in
      All-cons (HasTurnsUpTo most) (message.Calls t os) _ (one, omega arith, omega arith)
      (after_replies-within s registers (t + length os) (t + calls_in s) onward (omega arith) (omega arith) keeps (value_of_replies s (replies_from R t (length os))))
  carried-within s registers t onward limits one few keeps (act.End r) is = All-nil (HasTurnsUpTo most)

  eval-within : (k : ℕ) (ss : List Step) (registers : Members) (t : ℕ) → All KeepsLimits ss → 1 ≤ t → t + calls_of ss ≤ most + 1 → All (HasTurnsUpTo most) (eval R k ss registers t).messages
  eval-within k [] registers t limits one few = All-nil (HasTurnsUpTo most)
  eval-within zero (s ∷ ss) registers t limits one few =
      let sum : calls_of (s ∷ ss) ≡ calls_in s + calls_of ss = sum_by-cons calls_in s ss in
      carried-within s registers t (λ k registers t. eval R k ss registers t) (All-head KeepsLimits s ss limits) one (omega arith)
      (λ k registers u from below. eval-within k ss registers u (All-tail KeepsLimits s ss limits) from (omega arith)) (act_of registers s) refl
  eval-within (suc k) (s ∷ ss) registers t limits one few =
      let sum : calls_of (s ∷ ss) ≡ calls_in s + calls_of ss = sum_by-cons calls_in s ss in
      eval-within k ss registers t (All-tail KeepsLimits s ss limits) one (omega arith)

pub evaluation-within : (p : Program) (R : Replies) → AreWithinLimits p.steps → All (HasTurnsUpTo (calls_of p.steps)) (evaluation R p).messages
evaluation-within p R limits = eval-within R (calls_of p.steps) 0 p.steps (first_registers p) 1 limits.each (omega arith) (omega arith)
