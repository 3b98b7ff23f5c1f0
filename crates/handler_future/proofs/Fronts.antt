-- An evaluation depends on what is known alone, up to the first message that waits.
use Rattle.std.proofs.Common.{◌≡◌, ℕ, zero, suc, ◌+◌, List, [], ◌∷◌, ◌++◌, length, Bool, true, false, Result, Ok, Err, if◌then◌else◌, refl, ap, sym, ◌∙◌}
use Rattle.std.specs.List.{list_all, range_with_len}
use Rattle.serde_json.specs.Data.{Data, Members}
use Rattle.rpc_messages.specs.declared.reply.Reply.{Reply}
use Rattle.method_templates.specs.Steps.{Step}
use Rattle.handler_future.specs.declared.act.Act.{Act}
use Rattle.handler_future.specs.declared.act.Act.TheVariants as act
use Rattle.handler_future.specs.declared.message.Message.{Message}
use Rattle.handler_future.specs.declared.message.Message.TheVariants as message
use Rattle.handler_future.specs.Act.{act_of}
use Rattle.handler_future.specs.ReplyValues.{value_of_replies}
use Rattle.handler_future.specs.Evaluation.{Replies, Onward, Program, evaluation, eval, carried, after_replies, replies_from, first_registers}
use Rattle.handler_future.specs.Front.{Heard, is_heard, heard_replies, AgreesWith, turns_of, until_waiting, front}
use Rattle.handler_future.proofs.Heards.{known-in-row, replies-same}

module _ (known : ℕ → Bool) (R S : Replies) (agree : (t : ℕ) → known t ≡ true → R t ≡ S t) where
  Alike : Onward → Onward → Type 0
  Alike f g = (k : ℕ) (registers : Members) (t : ℕ) → until_waiting known (f k registers t).messages ≡ until_waiting known (g k registers t).messages

  after_replies-alike : (s : Step) (registers : Members) (t : ℕ) (f g : Onward) → ((k : ℕ) (registers : Members) (t : ℕ) → until_waiting known (f k registers t).messages ≡ until_waiting known (g k registers t).messages)
      → (r : Result Data Reply) → until_waiting known (after_replies s registers t f r).messages ≡ until_waiting known (after_replies s registers t g r).messages
  after_replies-alike s registers t f g alike (Ok d) = alike 0 _ t
  after_replies-alike s registers t f g alike (Err r) = refl

  asked-alike : (s : Step) (registers : Members) (t k : ℕ) (m : Message) (f g : Onward) → ((k : ℕ) (registers : Members) (t : ℕ) → until_waiting known (f k registers t).messages ≡ until_waiting known (g k registers t).messages)
      → turns_of m ≡ range_with_len t k
      → until_waiting known (m ∷ (after_replies s registers (t + k) f (value_of_replies s (replies_from R t k))).messages) ≡ until_waiting known (m ∷ (after_replies s registers (t + k) g (value_of_replies s (replies_from S t k))).messages)
  asked-alike s registers t k m f g alike turns = step (list_all known (turns_of m)) refl
    where
      step : (b : Bool) → list_all known (turns_of m) ≡ b
          → (m ∷ (if b then until_waiting known (after_replies s registers (t + k) f (value_of_replies s (replies_from R t k))).messages else []))
          ≡ (m ∷ (if b then until_waiting known (after_replies s registers (t + k) g (value_of_replies s (replies_from S t k))).messages else []))
      step true h =
          let all : list_all known (range_with_len t k) ≡ true = ap (list_all known) (sym turns) ∙ h in
          let same : replies_from R t k ≡ replies_from S t k = replies-same R S t k (λ u l n. agree u (known-in-row known t k u all l n)) in
          ap (λ ms. m ∷ ms) (ap (λ rs. until_waiting known (after_replies s registers (t + k) f (value_of_replies s rs)).messages) same
          ∙ after_replies-alike s registers (t + k) f g alike (value_of_replies s (replies_from S t k)))
      step false h = refl

  carried-alike : (s : Step) (registers : Members) (t : ℕ) (f g : Onward) → ((k : ℕ) (registers : Members) (t : ℕ) → until_waiting known (f k registers t).messages ≡ until_waiting known (g k registers t).messages)
      → (a : Act) → until_waiting known (carried R s registers t f a).messages ≡ until_waiting known (carried S s registers t g a).messages
  carried-alike s registers t f g alike (act.Put d) = alike 0 _ t
  carried-alike s registers t f g alike (act.Skip n) = alike n registers t
  carried-alike s registers t f g alike (act.Notify o) = ap (λ ms. message.Notice o ∷ ms) (alike 0 registers t)
  carried-alike s registers t f g alike (act.Call o) = asked-alike s registers t 1 (message.Call t o) f g alike refl
  carried-alike s registers t f g alike (act.Calls os) = asked-alike s registers t (length os) (message.Calls t os) f g alike refl
  carried-alike s registers t f g alike (act.End r) = refl

  pub eval-alike : (k : ℕ) (ss : List Step) (registers : Members) (t : ℕ) → until_waiting known (eval R k ss registers t).messages ≡ until_waiting known (eval S k ss registers t).messages
  eval-alike k [] registers t = refl
  eval-alike zero (s ∷ ss) registers t =
      carried-alike s registers t (λ k registers t. eval R k ss registers t) (λ k registers t. eval S k ss registers t) (λ k registers t. eval-alike k ss registers t) (act_of registers s)
  eval-alike (suc k) (s ∷ ss) registers t = eval-alike k ss registers t

-- what is up to the first that waits begins them all
pub front-begins : (known : ℕ → Bool) (ms : List Message) → (rest : List Message) × (ms ≡ until_waiting known ms ++ rest)
front-begins known [] = ([], refl)
front-begins known (m ∷ ms) = step (list_all known (turns_of m)) (front-begins known ms)
  where
    step : (b : Bool) → (rest : List Message) × (ms ≡ until_waiting known ms ++ rest) → (rest : List Message) × (m ∷ ms ≡ (m ∷ (if b then until_waiting known ms else [])) ++ rest)
    step true h = (h.0, ap (λ xs. m ∷ xs) h.1)
    step false h = (ms, refl)

pub front-same : (p : Program) (heard : Heard) (R : Replies) → AgreesWith heard R → until_waiting (is_heard heard) (evaluation R p).messages ≡ front p heard
front-same p heard R agrees = eval-alike (is_heard heard) R (heard_replies heard) agrees.same 0 p.steps (first_registers p) 1
