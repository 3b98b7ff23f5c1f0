-- What lasts as a run goes on.
use Rattle.std.proofs.Common.{◌≡◌, ℕ, zero, suc, ◌+◌, ◌≤◌, ◌<◌, List, [], ◌∷◌, ◌++◌, append-nil, append_assoc, length, drop, get_or, refl, ap, sym, ◌∙◌, subst, arith, Result, Ok, Err, IfOk, OnErr}
use Rattle.std.proofs.lemmas.List.{drop_more}
use Rattle.std.proofs.lemmas.List.Sums.{sum_by-take-drop, sum_by-drop_more}
use Rattle.serde_json.specs.Data.{Data}
use Rattle.rpc_messages.specs.declared.reply.Reply.{Reply}
use Rattle.method_templates.specs.Steps.{Step, calls_in, calls_of}
use Rattle.handler_future.specs.declared.act.Act.{Act}
use Rattle.handler_future.specs.declared.act.Act.TheVariants as act
use Rattle.handler_future.specs.declared.course.Progress.{Progress}
use Rattle.handler_future.specs.declared.course.Progress.TheVariants.{Going}
use Rattle.handler_future.specs.declared.message.Message.TheVariants as message
use Rattle.handler_future.specs.Act.{act_of}
use Rattle.handler_future.specs.Inner.Course.{Seen, Course, after_act, after_replies, after_value, late_replies}
use Rattle.handler_future.specs.Evaluation.{Program, replies_from}
use Rattle.handler_future.specs.ReplyValues.{value_of_replies}
use Rattle.handler_future.specs.Inner.Running.{Stays, HasRoomToWait, IsRunnable, IsSettling}

-- ---- results

pub if_ok : {X E : Type 0} {P Q : X → Type 0} (r : Result X E) → ((x : X) → P x → Q x) → IfOk r P → IfOk r Q
if_ok (Ok x) f p = f x p
if_ok (Err e) f p = tt

pub on_err : {X E P : Type 0} (r : Result X E) → P → OnErr r P
on_err (Ok x) p = tt
on_err (Err e) p = p

pub on_err-map : {X E P Q : Type 0} (r : Result X E) → (P → Q) → OnErr r P → OnErr r Q
on_err-map (Ok x) f p = tt
on_err-map (Err e) f p = f p

-- ---- lists

pub drop-drop : {A : Type 0} (n m : ℕ) (xs : List A) → drop n (drop m xs) ≡ drop (m + n) xs
drop-drop n zero xs = let e : zero + n ≡ n = omega arith in rw e refl
drop-drop zero (suc m) [] = let e : suc m + zero ≡ suc m = omega arith in rw e refl
drop-drop (suc n) (suc m) [] = let e : suc m + suc n ≡ suc (m + suc n) = omega arith in rw e refl
drop-drop n (suc m) (x ∷ xs) = let e : suc m + n ≡ suc (m + n) = omega arith in rw e (drop-drop n m xs)

pub calls_of-drop : (n : ℕ) (ss : List Step) → calls_of (drop n ss) ≤ calls_of ss
calls_of-drop n ss = omega (arith, sum_by-take-drop calls_in ss n)

pub from_here : (steps : List Step) (p : ℕ) (s : Step) → p < length steps → get_or steps p s ≡ s → drop p steps ≡ s ∷ drop (p + 1) steps
from_here steps p s within here = let e : drop p steps ≡ get_or steps p s ∷ drop (p + 1) steps = drop_more steps p s within in e ∙ ap (λ x. x ∷ drop (p + 1) steps) here

-- in a program with these steps
pub here_in : (p : Program) (steps : List Step) (place : ℕ) (s : Step) → p.steps ≡ steps → place < length steps → get_or steps place s ≡ s → drop place p.steps ≡ s ∷ drop (place + 1) p.steps
here_in p steps place s same within here = let P : List Step → Type 0 = λ xs. drop place xs ≡ s ∷ drop (place + 1) xs in subst P (sym same) (from_here steps place s within here)

-- ---- what may be counted on lasts

pub fewer : (steps : List Step) (p k t limit : ℕ) → t + calls_of (drop p steps) ≤ limit → t + calls_of (drop (p + k) steps) ≤ limit
fewer steps p k t limit h = let e : drop (p + k) steps ≡ drop k (drop p steps) = sym (drop-drop k p steps) in let l : calls_of (drop (p + k) steps) ≤ calls_of (drop p steps) = rw e (calls_of-drop k (drop p steps)) in omega arith

after_act-runnable : (steps : List Step) (c : Seen) (s : Step) (a : Act) → IsRunnable steps c → Going ≡ (after_act s c a).1 → IsRunnable steps (after_act s c a).0
after_act-runnable steps c s (act.Put v) r h = record { no_waits = r.no_waits; not_asked = r.not_asked; turns = fewer steps c.place 1 c.turn 1025 r.turns }
after_act-runnable steps c s (act.Skip n) r h = record { no_waits = r.no_waits; not_asked = r.not_asked; turns = fewer steps c.place (1 + n) c.turn 1025 r.turns }
after_act-runnable steps c s (act.Notify o) r h = record { no_waits = r.no_waits; not_asked = r.not_asked; turns = fewer steps c.place 1 c.turn 1025 r.turns }
after_act-runnable steps c s (act.Call o) r h = cc
after_act-runnable steps c s (act.Calls os) r h = cc
after_act-runnable steps c s (act.End e) r h = cc

pub runnable_goes : (steps : List Step) (c d : Seen) (s : Step) → IsRunnable steps c → d ≡ (after_act s c (act_of c.registers s)).0 → Going ≡ (after_act s c (act_of c.registers s)).1 → IsRunnable steps d
runnable_goes steps c d s r is going = let P : Seen → Type 0 = λ x. IsRunnable steps x in subst P (sym is) (after_act-runnable steps c s (act_of c.registers s) r going)

-- the turns of the step at a place
pub turns_here : (steps : List Step) (c : Seen) (s : Step) → IsRunnable steps c → c.place < length steps → get_or steps c.place s ≡ s → c.turn + calls_in s ≤ 1025
turns_here steps c s r within here =
    let sum : calls_of (drop c.place steps) ≡ calls_in (get_or steps c.place s) + calls_of (drop (c.place + 1) steps) = sum_by-drop_more calls_in steps c.place s within in
    let e : calls_in (get_or steps c.place s) ≡ calls_in s = ap calls_in here in
    let t = r.turns in omega arith

-- ---- what was heard stays, and messages are only added

pub stays_none : (c : Seen) → Stays c c
stays_none c = record { heard = refl; messages = ([], sym (append-nil c.messages)) }

pub stays_more : (b c d : Seen) → Stays b c → Stays c d → Stays b d
stays_more b c d h k = let x = h.messages in let y = k.messages in record {
  heard = k.heard ∙ h.heard;
  messages = (x.0 ++ y.0, y.1 ∙ ap (λ ms. ms ++ y.0) x.1 ∙ append_assoc b.messages x.0 y.0);
}

after_act-stays : (s : Step) (c : Seen) (a : Act) → Stays c (after_act s c a).0
after_act-stays s c (act.Put v) = record { heard = refl; messages = ([], sym (append-nil c.messages)) }
after_act-stays s c (act.Skip n) = record { heard = refl; messages = ([], sym (append-nil c.messages)) }
after_act-stays s c (act.Notify o) = record { heard = refl; messages = (message.Notice o ∷ [], refl) }
after_act-stays s c (act.Call o) = record { heard = refl; messages = (message.Call c.turn o ∷ [], refl) }
after_act-stays s c (act.Calls os) = record { heard = refl; messages = (message.Calls c.turn os ∷ [], refl) }
after_act-stays s c (act.End r) = record { heard = refl; messages = ([], sym (append-nil c.messages)) }

pub stays_moved : (c d : Seen) (s : Step) → d ≡ (after_act s c (act_of c.registers s)).0 → Stays c d
stays_moved c d s is = let P : Seen → Type 0 = λ x. Stays c x in subst P (sym is) (after_act-stays s c (act_of c.registers s))

-- ---- after the replies

after_value-runnable : (steps : List Step) (c : Seen) (s : Step) (r : Result Data Reply) → IsSettling steps c → Going ≡ (after_value s c r).1 → IsRunnable steps (after_value s c r).0
after_value-runnable steps c s (Ok v) h going = record { no_waits = h.no_waits; not_asked = refl; turns = h.turns }
after_value-runnable steps c s (Err r) h going = cc

pub after_replies_runnable : (steps : List Step) (c d : Seen) (s : Step) → IsSettling steps c → d ≡ (after_replies s c).0 → Going ≡ (after_replies s c).1 → IsRunnable steps d
after_replies_runnable steps c d s h is going =
    let P : Seen → Type 0 = λ x. IsRunnable steps x in subst P (sym is) (after_value-runnable steps c s (value_of_replies s (replies_from (late_replies c) c.turn c.asked)) h going)

after_value-stays : (c : Seen) (s : Step) (r : Result Data Reply) → Stays c (after_value s c r).0
after_value-stays c s (Ok v) = record { heard = refl; messages = ([], sym (append-nil c.messages)) }
after_value-stays c s (Err r) = record { heard = refl; messages = ([], sym (append-nil c.messages)) }

pub stays_after_replies : (c d : Seen) (s : Step) → d ≡ (after_replies s c).0 → Stays c d
stays_after_replies c d s is = let P : Seen → Type 0 = λ x. Stays c x in subst P (sym is) (after_value-stays c s (value_of_replies s (replies_from (late_replies c) c.turn c.asked)))

-- no one waits once replies were put in
after_value-room : (c : Seen) (s : Step) (r : Result Data Reply) (course : Course) → HasRoomToWait (after_value s c r).1 course
after_value-room c s (Ok v) course = tt
after_value-room c s (Err r) course = tt

pub after_replies_room : (c : Seen) (s : Step) (p : Progress) (course : Course) → p ≡ (after_replies s c).1 → HasRoomToWait p course
after_replies_room c s p course halt =
    let P : Progress → Type 0 = λ x. HasRoomToWait x course in subst P (sym halt) (after_value-room c s (value_of_replies s (replies_from (late_replies c) c.turn c.asked)) course)
