-- How many calls a step makes.
use Rattle.std.proofs.Common.{◌≡◌, ℕ, ◌≤◌, List, [], ◌∷◌, length, Bool, true, false, Option, Some, None, Result, Ok, Err, if◌then◌else◌, refl, ap, sym, ◌∙◌, arith}
use Rattle.std.proofs.lemmas.Bool.Decides.{nat_tests}
use Rattle.std.specs.Prelude.{nat_le}
use Rattle.serde_json.specs.Data.{Data, Items, Members}
use Rattle.serde_json.specs.Find.{as_array}
use Rattle.rpc_messages.specs.declared.outgoing.Outgoing.{Outgoing}
use Rattle.rpc_messages.specs.declared.reply.Reply.TheVariants.{Done}
use Rattle.message_ids.specs.declared.standard.Standard.{Standard}
use Rattle.message_ids.specs.declared.standard.Standard.TheVariants.{InvalidParams}
use Rattle.method_templates.specs.declared.step.ListedCall.{ListedCall}
use Rattle.method_templates.specs.declared.step.Step.TheVariants as step
use Rattle.method_templates.specs.Steps.{Step, KeepsLimits, calls_in}
use Rattle.handler_future.specs.declared.act.Act.{Act}
use Rattle.handler_future.specs.declared.act.Act.TheVariants as act
use Rattle.handler_future.specs.Act.{or_end, template_value, sum_of, are_alike, outgoing_of, outgoings_of, calls_for, calls_for_array, calls_for_each, act_of_calls, act_of}
use Rattle.handler_future.specs.Results.{and_then}

abbrev pub asked : Act → ℕ
asked (act.Call o) = 1
asked (act.Calls os) = length os
asked _ = 0

abbrev pub asks : Act → Bool
asks (act.Call o) = true
asks (act.Calls os) = true
asks _ = false

pub record Within (limit : ℕ) (a : Act) : Type 0 where
  pub most : asked a ≤ limit
  pub some : asks a ≡ true → 1 ≤ asked a

put-within : (X : Result Data Standard) → Within 0 (or_end (and_then X (λ d. Ok (act.Put d))))
put-within (Ok d) = record { most = omega arith; some = λ h. cc }
put-within (Err s) = record { most = omega arith; some = λ h. cc }

skip-within : (X : Result Bool Standard) (n : ℕ) → Within 0 (or_end (and_then X (λ b. Ok (act.Skip (if b then n else 0)))))
skip-within (Ok d) n = record { most = omega arith; some = λ h. cc }
skip-within (Err s) n = record { most = omega arith; some = λ h. cc }

notify-within : (X : Result Outgoing Standard) → Within 0 (or_end (and_then X (λ o. Ok (act.Notify o))))
notify-within (Ok d) = record { most = omega arith; some = λ h. cc }
notify-within (Err s) = record { most = omega arith; some = λ h. cc }

answer-within : (X : Result Data Standard) → Within 0 (or_end (and_then X (λ d. Ok (act.End (Done d)))))
answer-within (Ok d) = record { most = omega arith; some = λ h. cc }
answer-within (Err s) = record { most = omega arith; some = λ h. cc }

call-within : (X : Result Outgoing Standard) → Within 1 (or_end (and_then X (λ o. Ok (act.Call o))))
call-within (Ok d) = record { most = omega arith; some = λ h. omega arith }
call-within (Err s) = record { most = omega arith; some = λ h. cc }

calls-within : (X : Result (List Outgoing) Standard) (n : ℕ) → 1 ≤ n → ((os : List Outgoing) → X ≡ Ok os → length os ≡ n) → Within n (or_end (and_then X (λ os. Ok (act.Calls os))))
calls-within (Ok os) n some h = let e = h os refl in record { most = omega arith; some = λ _. omega arith }
calls-within (Err s) n some h = record { most = omega arith; some = λ h. cc }

pub outgoings-length : (registers : Members) (list : List ListedCall) (os : List Outgoing) → outgoings_of registers list ≡ Ok os → length os ≡ length list
outgoings-length registers [] os h = let e : os ≡ [] = cc in rw e refl
outgoings-length registers (c ∷ cs) os h = both (outgoing_of registers c.method c.params) (outgoings_of registers cs) os h (outgoings-length registers cs)
  where
    both : (X : Result Outgoing Standard) (Y : Result (List Outgoing) Standard) (os : List Outgoing) → and_then X (λ o. and_then Y (λ ps. Ok (o ∷ ps))) ≡ Ok os → ((ps : List Outgoing) → Y ≡ Ok ps → length ps ≡ length cs) → length os ≡ length (c ∷ cs)
    both (Ok o) (Ok ps) os h all = let e : o ∷ ps ≡ os = cc in rw (← e) (let l = all ps refl in omega arith)
    both (Ok o) (Err s) os h all = cc
    both (Err s) Y os h all = cc

-- ---- one call for each element

few-for-array : (method : List ℕ) (o : Option Items) (os : List Outgoing) → calls_for_array method o ≡ Ok os → length os ≤ 16
few-for-array method None os h = cc
few-for-array method (Some ds) os h = step (nat_le (length (calls_for method ds)) 16) refl h
  where
    step : (b : Bool) → nat_le (length (calls_for method ds)) 16 ≡ b → (if b then Ok (calls_for method ds) else Err InvalidParams) ≡ Ok os → length os ≤ 16
    step true e g = let same : calls_for method ds ≡ os = cc in let l : length (calls_for method ds) ≤ 16 = grind (arith, nat_tests) in rw (← same) l
    step false e g = cc

act_of_calls-within : (X : Result (List Outgoing) Standard) → ((os : List Outgoing) → X ≡ Ok os → length os ≤ 16) → Within 16 (or_end (and_then X (λ os. Ok (act_of_calls os))))
act_of_calls-within (Ok []) few = record { most = omega arith; some = λ h. cc }
act_of_calls-within (Ok (o ∷ os)) few = record { most = few (o ∷ os) refl; some = λ h. omega arith }
act_of_calls-within (Err s) few = record { most = omega arith; some = λ h. cc }

each-within : (method : List ℕ) (X : Result Data Standard) → Within 16 (or_end (and_then X (λ d. and_then (calls_for_each method d) (λ os. Ok (act_of_calls os)))))
each-within method (Ok d) = act_of_calls-within (calls_for_each method d) (few-for-array method (as_array d))
each-within method (Err s) = record { most = omega arith; some = λ h. cc }

pub act-within : (registers : Members) (s : Step) → KeepsLimits s → Within (calls_in s) (act_of registers s)
act-within registers (step.Set to value) h = put-within (template_value registers value)
act-within registers (step.Add to left right) h = put-within (sum_of registers left right)
act-within registers (step.Skip left right count) h = skip-within (are_alike registers left right) count
act-within registers (step.Call to method params on_error) h = call-within (outgoing_of registers method params)
act-within registers (step.Calls to list on_error) h = calls-within (outgoings_of registers list) (length list) h.0 (outgoings-length registers list)
act-within registers (step.Each to over method on_error) h = each-within method (template_value registers over)
act-within registers (step.Notify method params) h = notify-within (outgoing_of registers method params)
act-within registers (step.Answer value) h = answer-within (template_value registers value)
act-within registers (step.Fail code message) h = record { most = omega arith; some = λ h. cc }

pub few_calls : (s : Step) → KeepsLimits s → calls_in s ≤ 16
few_calls (step.Set to value) h = omega arith
few_calls (step.Add to left right) h = omega arith
few_calls (step.Skip left right count) h = omega arith
few_calls (step.Call to method params on_error) h = omega arith
few_calls (step.Calls to list on_error) h = h.1
few_calls (step.Each to over method on_error) h = omega arith
few_calls (step.Notify method params) h = omega arith
few_calls (step.Answer value) h = omega arith
few_calls (step.Fail code message) h = omega arith

-- a batch of calls is the step's
pub calls_made : (registers : Members) (s : Step) (a : Act) (os : List Outgoing) → KeepsLimits s → a ≡ act_of registers s → a ≡ act.Calls os → length os ≤ calls_in s
calls_made registers s a os limits is calls =
    let w = act-within registers s limits in let e : asked (act_of registers s) ≡ length os = ap asked (sym is ∙ calls) in let m = w.most in omega arith
