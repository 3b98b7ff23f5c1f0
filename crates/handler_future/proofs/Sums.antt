-- A sum that the next step answers ends the evaluation.
use Rattle.std.proofs.Common.{◌≡◌, ℕ, ◌+◌, List, [], ◌∷◌, drop, option_and_then, Ok, Err, ap, ◌∙◌, refl, sym, subst, append-nil}
use Rattle.serde_json.specs.Data.{Data, Members, put}
use Rattle.serde_json.specs.Find.{pointer}
use Rattle.serde_json.proofs.Views.{get_member-put}
use Rattle.message_ids.specs.declared.standard.Standard.{Standard}
use Rattle.rpc_messages.specs.declared.reply.Reply.{Reply}
use Rattle.rpc_messages.specs.declared.reply.Reply.TheVariants.{Done, Standard as Fixed}
use Rattle.method_templates.specs.Shape.{Shape, place}
use Rattle.method_templates.specs.Steps.{Step}
use Rattle.method_templates.specs.Value.{found_in}
use Rattle.method_templates.specs.declared.step.Step.TheVariants.{Add, Answer}
use Rattle.handler_future.specs.declared.act.Act.TheVariants.{Put, End}
use Rattle.handler_future.specs.Act.{sum_of, or_end, or_error}
use Rattle.handler_future.specs.declared.course.Progress.{Progress}
use Rattle.handler_future.specs.declared.course.Progress.TheVariants.{Ended}
use Rattle.handler_future.specs.Evaluation.{Replies, Onward, Program, eval, carried, ended, preceded}
use Rattle.handler_future.specs.Inner.Course.{Seen, without_registers}
use Rattle.handler_future.specs.Inner.Running.{Stays, Extends}
use Rattle.handler_future.specs.Inner.Standing.{StandsBefore, Leads}
use Rattle.handler_future.specs.Results.{and_then}
use Rattle.handler_future.specs.State.{AddsNotices}

-- how a method goes on with these steps
abbrev onward : Replies → List Step → Onward
onward R ss = λ k registers t. eval R k ss registers t

sum-ends : (R : Replies) (ss : List Step) (name : List ℕ) (left right : Shape) (registers : Members) (t : ℕ) (v : Data) → sum_of registers left right ≡ Ok v
    → eval R 0 (Add name left right ∷ Answer (place name []) ∷ ss) registers t ≡ ended (Done v)
sum-ends R ss name left right registers t v is =
    ap (λ x. carried R (Add name left right) registers t (onward R (Answer (place name []) ∷ ss)) (or_end (and_then x (λ d. Ok (Put d))))) is
    ∙ ap (λ x. carried R (Answer (place name [])) (put name v registers) t (onward R ss) (or_end (and_then (or_error (found_in name (option_and_then (pointer []) x))) (λ d. Ok (End (Done d))))))
    (get_member-put name v registers)

fault-ends : (R : Replies) (ss : List Step) (name : List ℕ) (left right : Shape) (registers : Members) (t : ℕ) (e : Standard) → sum_of registers left right ≡ Err e
    → eval R 0 (Add name left right ∷ ss) registers t ≡ ended (Fixed e)
fault-ends R ss name left right registers t e is =
    ap (λ x. carried R (Add name left right) registers t (onward R ss) (or_end (and_then x (λ d. Ok (Put d))))) is

-- ---- the same from a place in a list

two-steps : (steps : List Step) (p : ℕ) (s n : Step) (name : List ℕ) (left right : Shape) → s ≡ Add name left right → n ≡ Answer (place name [])
    → drop p steps ≡ s ∷ drop (p + 1) steps → drop (p + 1) steps ≡ n ∷ drop (p + 1 + 1) steps
    → drop p steps ≡ Add name left right ∷ Answer (place name []) ∷ drop (p + 1 + 1) steps
two-steps steps p s n name left right adds answers here next =
    here ∙ ap (λ xs. s ∷ xs) next ∙ (λ i. adds i ∷ answers i ∷ drop (p + 1 + 1) steps)

pub answered : (R : Replies) (steps : List Step) (p : ℕ) (s n : Step) (name : List ℕ) (left right : Shape) (registers : Members) (t : ℕ) (v : Data) → s ≡ Add name left right → n ≡ Answer (place name [])
    → drop p steps ≡ s ∷ drop (p + 1) steps → drop (p + 1) steps ≡ n ∷ drop (p + 1 + 1) steps → sum_of registers left right ≡ Ok v
    → eval R 0 (drop p steps) registers t ≡ ended (Done v)
answered R steps p s n name left right registers t v adds answers here next is =
    ap (λ xs. eval R 0 xs registers t) (two-steps steps p s n name left right adds answers here next) ∙ sum-ends R (drop (p + 1 + 1) steps) name left right registers t v is

pub faulted : (R : Replies) (steps : List Step) (p : ℕ) (s : Step) (name : List ℕ) (left right : Shape) (registers : Members) (t : ℕ) (e : Standard) → s ≡ Add name left right
    → drop p steps ≡ s ∷ drop (p + 1) steps → sum_of registers left right ≡ Err e
    → eval R 0 (drop p steps) registers t ≡ ended (Fixed e)
faulted R steps p s name left right registers t e adds here is =
    ap (λ xs. eval R 0 xs registers t) (here ∙ (λ i. adds i ∷ drop (p + 1) steps)) ∙ fault-ends R (drop (p + 1) steps) name left right registers t e is

-- ---- a method whose steps end at once

pub comes-at-once : (p : Program) (steps : List Step) (c d : Seen) (q : Progress) (r : Reply) → p.steps ≡ steps → StandsBefore p c → ((R : Replies) (t : ℕ) → eval R 0 (drop c.place steps) c.registers t ≡ ended r)
    → d ≡ without_registers c → q ≡ Ended r → Leads p d q
comes-at-once p steps c d q r same at ends is to = let P : Seen × Progress → Type 0 = λ x. Leads p x.0 x.1 in
    let e : (d, q) ≡ (without_registers c, Ended r) = λ i. (is i, to i) in
    subst P (sym e) (record {
      law = λ R agrees. at.law R agrees ∙ ap (λ xs. preceded c.messages (eval R 0 (drop c.place xs) c.registers c.turn)) same ∙ ap (preceded c.messages) (ends R c.turn)
          ∙ (λ i. record { messages = append-nil c.messages i; answer = r });
      heard = at.heard;
      no_waits = at.no_waits;
    })

pub stays-ended : (c d : Seen) → d ≡ without_registers c → Stays c d
stays-ended c d is = let P : Seen → Type 0 = Stays c in subst P (sym is) (record { heard = refl; messages = ([], sym (append-nil c.messages)) })

pub adds-ended : (first c d : Seen) (q : Progress) (r : Reply) → AddsNotices first.messages c.messages [] → d ≡ without_registers c → q ≡ Ended r → Extends (Ok q) first d
adds-ended first c d q r adds is to = let P : Seen × Progress → Type 0 = λ x. Extends (Ok x.1) first x.0 in
    let e : (d, q) ≡ (without_registers c, Ended r) = λ i. (is i, to i) in subst P (sym e) adds
