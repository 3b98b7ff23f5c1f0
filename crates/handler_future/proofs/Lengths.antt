-- How many messages an evaluation has.
use Rattle.std.proofs.Common.{ℕ, zero, suc, ◌+◌, ◌≤◌, List, [], ◌∷◌, length, arith, Result, Ok, Err}
use Rattle.serde_json.specs.Data.{Data, Members, put}
use Rattle.rpc_messages.specs.declared.reply.Reply.{Reply}
use Rattle.method_templates.specs.Steps.{Step}
use Rattle.handler_future.specs.declared.act.Act.{Act}
use Rattle.handler_future.specs.declared.act.Act.TheVariants as act
use Rattle.handler_future.specs.Act.{act_of}
use Rattle.handler_future.specs.Evaluation.{Replies, Onward, Program, evaluation, eval, carried, after_replies, replies_from, first_registers}
use Rattle.handler_future.specs.ReplyValues.{register_of, value_of_replies}

module _ (R : Replies) where
  after_replies-few : (s : Step) (registers : Members) (t most : ℕ) (onward : Onward)
      → ((k : ℕ) (registers : Members) (t : ℕ) → length (onward k registers t).messages ≤ most)
      → (r : Result Data Reply) → length (after_replies s registers t onward r).messages ≤ most
  after_replies-few s registers t most onward few (Ok d) = few 0 _ t
  after_replies-few s registers t most onward few (Err r) = omega arith

  carried-few : (s : Step) (registers : Members) (t most : ℕ) (onward : Onward)
      → ((k : ℕ) (registers : Members) (t : ℕ) → length (onward k registers t).messages ≤ most)
      → (a : Act) → length (carried R s registers t onward a).messages ≤ most + 1
  carried-few s registers t most onward few (act.Put d) =
      let n = few 0 (put (register_of s) d registers) t in omega arith
  carried-few s registers t most onward few (act.Skip k) = let n = few k registers t in omega arith
  carried-few s registers t most onward few (act.Notify o) = let n = few 0 registers t in omega arith
  carried-few s registers t most onward few (act.Call o) =
      let n = after_replies-few s registers (t + 1) most onward few (value_of_replies s (replies_from R t 1)) in omega arith
  carried-few s registers t most onward few (act.Calls os) =
      let n = after_replies-few s registers (t + length os) most onward few (value_of_replies s (replies_from R t (length os))) in omega arith
  carried-few s registers t most onward few (act.End r) = omega arith

  eval-few : (k : ℕ) (ss : List Step) (registers : Members) (t : ℕ) → length (eval R k ss registers t).messages ≤ length ss
  eval-few k [] registers t = omega arith
  eval-few zero (s ∷ ss) registers t =
      let n = carried-few s registers t (length ss) (λ k registers t. eval R k ss registers t) (λ k registers t. eval-few k ss registers t) (act_of registers s) in omega arith
  eval-few (suc k) (s ∷ ss) registers t = let n = eval-few k ss registers t in omega arith

pub evaluation-few : (p : Program) (R : Replies) → length (evaluation R p).messages ≤ length p.steps
evaluation-few p R = eval-few R 0 p.steps (first_registers p) 1
