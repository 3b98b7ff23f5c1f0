-- What steps add to the messages.
use Rattle.std.proofs.Common.{◌≡◌, List, [], ◌∷◌, ◌++◌, length, map, append-nil, append_assoc, refl, ap, sym, ◌∙◌, subst, arith, Result, Ok, Err}
use Rattle.std.proofs.lemmas.List.{map-append}
use Rattle.std.proofs.lemmas.List.FromFn.{length-range_with_len}
use Rattle.std.specs.declared.alloc.AllocError.{AllocError}
use Rattle.serde_json.specs.Data.{Data}
use Rattle.rpc_messages.specs.declared.reply.Reply.{Reply}
use Rattle.method_templates.specs.Steps.{Step, KeepsLimits}
use Rattle.handler_future.specs.declared.act.Act.{Act}
use Rattle.handler_future.specs.declared.act.Act.TheVariants as act
use Rattle.handler_future.specs.declared.course.Progress.{Progress}
use Rattle.handler_future.specs.declared.course.Progress.TheVariants.{Going, Waiting, Ended}
use Rattle.handler_future.specs.declared.message.Message.{Message}
use Rattle.handler_future.specs.declared.message.Message.TheVariants as message
use Rattle.handler_future.specs.Act.{act_of}
use Rattle.handler_future.specs.Inner.Course.{Seen, after_act, after_replies, after_value, late_replies}
use Rattle.handler_future.specs.Evaluation.{replies_from}
use Rattle.handler_future.specs.ReplyValues.{value_of_replies}
use Rattle.handler_future.specs.Inner.Running.{Extends}
use Rattle.handler_future.specs.State.{AddsNotices}
use Rattle.handler_future.proofs.Asks.{asked, asks, act-within}

pub none_added : (ms : List Message) → AddsNotices ms ms []
none_added ms = record { notices = []; made = sym (append-nil ms) }

pub more_added : (a b c last : List Message) → AddsNotices a b [] → AddsNotices b c last → AddsNotices a c last
more_added a b c last h k =
    let ns : List Message = map message.Notice h.notices in
    let ms : List Message = map message.Notice k.notices in
    record {
      notices = h.notices ++ k.notices;
      made = k.made ∙ ap (λ x. x ++ (ms ++ last)) (h.made ∙ ap (λ x. a ++ x) (append-nil ns)) ∙ append_assoc a ns (ms ++ last)
          ∙ ap (λ x. a ++ x) (sym (append_assoc ns ms last) ∙ ap (λ x. x ++ last) (sym (map-append message.Notice h.notices k.notices)));
    }

pub goes_on_adding : (q : Result Progress AllocError) (a b c : Seen) → AddsNotices a.messages b.messages [] → Extends q b c → Extends q a c
goes_on_adding (Ok Going) a b c h k = more_added a.messages b.messages c.messages [] h k
goes_on_adding (Ok Waiting) a b c h k = record { last = k.last; calls = k.calls; added = more_added a.messages b.messages c.messages (k.last ∷ []) h k.added }
goes_on_adding (Ok (Ended r)) a b c h k = more_added a.messages b.messages c.messages [] h k
goes_on_adding (Err e) a b c h k = more_added a.messages b.messages c.messages [] h k

-- ---- one step

moved_adds : (s : Step) (c : Seen) (a : Act) → KeepsLimits s → a ≡ act_of c.registers s → Extends (Ok (after_act s c a).1) c (after_act s c a).0
moved_adds s c (act.Put v) limits is = none_added c.messages
moved_adds s c (act.Skip n) limits is = none_added c.messages
moved_adds s c (act.Notify o) limits is = record { notices = o ∷ []; made = refl }
moved_adds s c (act.Call o) limits is = record { last = message.Call c.turn o; calls = omega arith; added = record { notices = []; made = refl } }
moved_adds s c (act.Calls os) limits is =
    let some = (act-within c.registers s limits).some (ap asks (sym is)) in
    let e : asked (act_of c.registers s) ≡ length os = ap asked (sym is) in
    record { last = message.Calls c.turn os; calls = (let n = length-range_with_len c.turn (length os) in omega arith); added = record { notices = []; made = refl } }
moved_adds s c (act.End r) limits is = none_added c.messages

pub step_adds : (s : Step) (c d : Seen) (q : Progress) → KeepsLimits s → d ≡ (after_act s c (act_of c.registers s)).0 → q ≡ (after_act s c (act_of c.registers s)).1 → Extends (Ok q) c d
step_adds s c d q limits is to =
    let P : Seen × Progress → Type 0 = λ x. Extends (Ok x.1) c x.0 in
    let e : (d, q) ≡ after_act s c (act_of c.registers s) = λ i. (is i, to i) in
    subst P (sym e) (moved_adds s c (act_of c.registers s) limits refl)

-- ---- after the replies

after_value_adds : (s : Step) (c : Seen) (r : Result Data Reply) → Extends (Ok (after_value s c r).1) c (after_value s c r).0
after_value_adds s c (Ok d) = none_added c.messages
after_value_adds s c (Err r) = none_added c.messages

pub replies_add : (s : Step) (c d : Seen) (q : Progress) → d ≡ (after_replies s c).0 → q ≡ (after_replies s c).1 → Extends (Ok q) c d
replies_add s c d q is to =
    let P : Seen × Progress → Type 0 = λ x. Extends (Ok x.1) c x.0 in
    let e : (d, q) ≡ after_replies s c = λ i. (is i, to i) in
    subst P (sym e) (after_value_adds s c (value_of_replies s (replies_from (late_replies c) c.turn c.asked)))

-- ---- an error changes nothing

pub unchanged_adds : (c d : Seen) → d ≡ c → AddsNotices c.messages d.messages []
unchanged_adds c d same = let P : Seen → Type 0 = λ x. AddsNotices c.messages x.messages [] in subst P (sym same) (none_added c.messages)
