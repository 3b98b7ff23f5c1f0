-- Each step, and what follows its replies, does what the evaluation says.
use Rattle.std.proofs.Common.{◌≡◌, ℕ, zero, suc, ◌+◌, ◌≤◌, ◌<◌, List, [], ◌∷◌, ◌++◌, length, drop, true, false, Result, Ok, Err, refl, ap, sym, ◌∙◌, subst, arith, append_assoc, append-nil, ◌⊎◌, inl, inr}
use Rattle.std.proofs.Math.Seq.{take-length}
use Rattle.std.proofs.lemmas.Bool.{cases_lt}
use Rattle.std.proofs.lemmas.List.{drop_all}
use Rattle.std.proofs.lemmas.List.FromFn.{length-range_with_len}
use Rattle.std.proofs.lemmas.List.Sums.{sum_by-drop_more}
use Rattle.std.specs.List.{list_all, range_with_len}
use Rattle.serde_json.specs.Data.{Data, null, Members}
use Rattle.rpc_messages.specs.declared.reply.Reply.{Reply}
use Rattle.rpc_messages.specs.declared.reply.Reply.TheVariants.{Done}
use Rattle.method_templates.specs.Steps.{Step, KeepsLimits, calls_in, calls_of}
use Rattle.handler_future.specs.declared.act.Act.{Act}
use Rattle.handler_future.specs.declared.act.Act.TheVariants as act
use Rattle.handler_future.specs.declared.course.Progress.{Progress}
use Rattle.handler_future.specs.declared.message.Message.{Message}
use Rattle.handler_future.specs.declared.message.Message.TheVariants as message
use Rattle.handler_future.specs.Act.{act_of}
use Rattle.handler_future.specs.ReplyValues.{value_of_replies}
use Rattle.handler_future.specs.Inner.Course.{Seen, after_act, after_replies, after_value, late_replies, asking}
use Rattle.handler_future.specs.Evaluation as on
use Rattle.handler_future.specs.Evaluation.{Replies, Onward, Program, Evaluation, evaluation, eval, carried, preceded, ended, replies_from}
use Rattle.handler_future.specs.Front.{is_heard, heard_replies, AgreesWith, turns_of, until_waiting, unheard, are_heard, front, last_turns}
use Rattle.handler_future.specs.Inner.Running.{IsReady}
use Rattle.handler_future.specs.Inner.Standing.{StandsBefore, Asks, IsParked, IsUnderWay, HasCome, Begins, Leads}
use Rattle.handler_future.proofs.Asks.{asked, asks, act-within}
use Rattle.handler_future.proofs.Heards.{unheard-all, are_heard-append, all-heard, known-in-row, replies-same, late-replies, until_waiting-last, last_turns-append, not-all-heard}
use Rattle.handler_future.proofs.Runs.{drop-drop, fewer}

-- ---- evaluations

preceded-twice : (ms ns : List Message) (e : Evaluation) → preceded ms (preceded ns e) ≡ preceded (ms ++ ns) e
preceded-twice ms ns e = λ i. record { messages = sym (append_assoc ms ns e.messages) i; answer = e.answer }

preceded-end : (ms : List Message) (r : Reply) → preceded ms (ended r) ≡ record { messages = ms; answer = r }
preceded-end ms r = λ i. record { messages = append-nil ms i; answer = r }

carried-asks : (R : Replies) (s : Step) (registers : Members) (t : ℕ) (onward : Onward) (a : Act) (m : Message) (k : ℕ) → Asks t a m k
    → carried R s registers t onward a ≡ preceded (m ∷ []) (on.after_replies s registers (t + k) onward (value_of_replies s (replies_from R t k)))
carried-asks R s registers t onward (act.Put d) m k h = absurd h
carried-asks R s registers t onward (act.Skip n) m k h = absurd h
carried-asks R s registers t onward (act.Notify o) m k h = absurd h
carried-asks R s registers t onward (act.Call o) m k h = λ i. preceded (sym h.0 i ∷ []) (on.after_replies s registers (t + sym h.1 i) onward (value_of_replies s (replies_from R t (sym h.1 i))))
carried-asks R s registers t onward (act.Calls os) m k h = λ i. preceded (sym h.0 i ∷ []) (on.after_replies s registers (t + sym h.1 i) onward (value_of_replies s (replies_from R t (sym h.1 i))))
carried-asks R s registers t onward (act.End r) m k h = absurd h

asks-turns : (t : ℕ) (a : Act) (m : Message) (k : ℕ) → Asks t a m k → turns_of m ≡ range_with_len t k
asks-turns t (act.Put d) m k h = absurd h
asks-turns t (act.Skip n) m k h = absurd h
asks-turns t (act.Notify o) m k h = absurd h
asks-turns t (act.Call o) m k h = ap turns_of h.0 ∙ ap (range_with_len t) (sym h.1)
asks-turns t (act.Calls os) m k h = ap turns_of h.0 ∙ ap (range_with_len t) (sym h.1)
asks-turns t (act.End r) m k h = absurd h

-- ---- lists

calls-first : (s : Step) (ss : List Step) → calls_of (s ∷ ss) ≡ calls_in s + calls_of ss
calls-first s ss = sum_by-drop_more calls_in (s ∷ ss) 0 s (omega arith)

-- to pass over steps is to begin after them
eval-skip : (R : Replies) (k : ℕ) (ss : List Step) (registers : Members) (t : ℕ) → eval R k ss registers t ≡ eval R 0 (drop k ss) registers t
eval-skip R zero ss registers t = refl
eval-skip R (suc k) [] registers t = refl
eval-skip R (suc k) (s ∷ ss) registers t = eval-skip R k ss registers t

-- ---- one step

parks : (p : Program) (s : Step) (c : Seen) (a : Act) (m : Message) (k : ℕ) → a ≡ act_of c.registers s → drop c.place p.steps ≡ s ∷ drop (c.place + 1) p.steps → StandsBefore p c
    → Asks c.turn a m k → k ≤ calls_in s → 0 < k → IsParked p (asking m k c)
parks p s c a m k is here at asks most some = record {
  done = c.messages;
  last = m;
  step = s;
  made = refl;
  here = here;
  asks = (let P : Act → Type 0 = λ x. Asks c.turn x m k in subst P is asks);
  law = at.law;
  heard = at.heard;
  none_ahead = λ t l. at.none_ahead t (omega arith);
  none_before = λ t l. ap (λ h. is_heard h t) (take-length c.heard) ∙ at.none_ahead t l;
  few = omega arith;
  waits = sym (unheard-all c.heard c.turn k at.none_ahead);
  some = some;
  from_one = at.from_one;
  turns = (let e : calls_of (drop c.place p.steps) ≡ calls_in s + calls_of (drop (c.place + 1) p.steps) = ap calls_of here ∙ calls-first s (drop (c.place + 1) p.steps) in let t = at.turns in omega arith);
}

-- the evaluation, told from what the step does
step-law : (p : Program) (s : Step) (c : Seen) (a : Act) → a ≡ act_of c.registers s → drop c.place p.steps ≡ s ∷ drop (c.place + 1) p.steps → StandsBefore p c
    → (R : Replies) → AgreesWith c.heard R → evaluation R p ≡ preceded c.messages (carried R s c.registers c.turn (λ k registers t. eval R k (drop (c.place + 1) p.steps) registers t) a)
step-law p s c a is here at R agrees =
    at.law R agrees ∙ ap (λ xs. preceded c.messages (eval R 0 xs c.registers c.turn)) here
    ∙ ap (λ x. preceded c.messages (carried R s c.registers c.turn (λ k registers t. eval R k (drop (c.place + 1) p.steps) registers t) x)) (sym is)

after_act-leads : (p : Program) (s : Step) (c : Seen) (a : Act) → KeepsLimits s → a ≡ act_of c.registers s → drop c.place p.steps ≡ s ∷ drop (c.place + 1) p.steps → StandsBefore p c
    → Leads p (after_act s c a).0 (after_act s c a).1
after_act-leads p s c (act.Put v) limits is here at = record {
  law = step-law p s c (act.Put v) is here at;
  heard = at.heard;
  none_ahead = at.none_ahead;
  no_waits = at.no_waits;
  not_asked = at.not_asked;
  from_one = at.from_one;
  turns = fewer p.steps c.place 1 c.turn (1 + calls_of p.steps) at.turns;
}
after_act-leads p s c (act.Skip n) limits is here at = record {
  law = λ R agrees. step-law p s c (act.Skip n) is here at R agrees
      ∙ ap (preceded c.messages) (eval-skip R n (drop (c.place + 1) p.steps) c.registers c.turn
      ∙ ap (λ xs. eval R 0 xs c.registers c.turn) (drop-drop n (c.place + 1) p.steps ∙ (let e : c.place + 1 + n ≡ c.place + (1 + n) = omega arith in ap (λ k. drop k p.steps) e)));
  heard = at.heard;
  none_ahead = at.none_ahead;
  no_waits = at.no_waits;
  not_asked = at.not_asked;
  from_one = at.from_one;
  turns = fewer p.steps c.place (1 + n) c.turn (1 + calls_of p.steps) at.turns;
}
after_act-leads p s c (act.Notify o) limits is here at = record {
  law = λ R agrees. step-law p s c (act.Notify o) is here at R agrees
      ∙ preceded-twice c.messages (message.Notice o ∷ []) (eval R 0 (drop (c.place + 1) p.steps) c.registers c.turn);
  heard = are_heard-append c.heard c.messages (message.Notice o) at.heard refl;
  none_ahead = at.none_ahead;
  no_waits = at.no_waits;
  not_asked = at.not_asked;
  from_one = at.from_one;
  turns = fewer p.steps c.place 1 c.turn (1 + calls_of p.steps) at.turns;
}
after_act-leads p s c (act.Call o) limits is here at =
    let w = act-within c.registers s limits in let e : asked (act_of c.registers s) ≡ 1 = ap asked (sym is) in let m = w.most in
    (parks p s c (act.Call o) (message.Call c.turn o) 1 is here at (refl, refl) (omega arith) (omega arith), (let l = length-range_with_len c.turn 1 in omega arith))
after_act-leads p s c (act.Calls os) limits is here at =
    let w = act-within c.registers s limits in let e : asked (act_of c.registers s) ≡ length os = ap asked (sym is) in let m = w.most in let n = w.some (ap asks (sym is)) in
    (parks p s c (act.Calls os) (message.Calls c.turn os) (length os) is here at (refl, refl) (omega arith) (omega arith), (let l = length-range_with_len c.turn (length os) in omega arith))
after_act-leads p s c (act.End r) limits is here at = record {
  law = λ R agrees. step-law p s c (act.End r) is here at R agrees ∙ preceded-end c.messages r;
  heard = at.heard;
  no_waits = at.no_waits;
}

pub step-leads : (p : Program) (s : Step) (c d : Seen) (q : Progress) → KeepsLimits s → drop c.place p.steps ≡ s ∷ drop (c.place + 1) p.steps → StandsBefore p c
    → d ≡ (after_act s c (act_of c.registers s)).0 → q ≡ (after_act s c (act_of c.registers s)).1 → Leads p d q
step-leads p s c d q limits here at is to = let P : Seen × Progress → Type 0 = λ x. Leads p x.0 x.1 in
    let e : (d, q) ≡ after_act s c (act_of c.registers s) = λ i. (is i, to i) in subst P (sym e) (after_act-leads p s c (act_of c.registers s) limits refl here at)

-- past the last step
pub stands-ended : (p : Program) (c : Seen) → length p.steps ≤ c.place → StandsBefore p c → HasCome p c (Done null)
stands-ended p c past at = record {
  law = λ R agrees. at.law R agrees ∙ ap (λ xs. preceded c.messages (eval R 0 xs c.registers c.turn)) (drop_all c.place p.steps past) ∙ preceded-end c.messages (Done null);
  heard = at.heard;
  no_waits = at.no_waits;
}

pub stands-begins : (p : Program) (c : Seen) → StandsBefore p c → Begins p c
stands-begins p c at = record { law = λ R agrees. (_, ap (λ (e : Evaluation). e.messages) (at.law R agrees)); heard = at.heard; no_waits = at.no_waits }

pub come-begins : (p : Program) (c : Seen) (r : Reply) → HasCome p c r → Begins p c
come-begins p c r h = record { law = λ R agrees. ([], ap (λ (e : Evaluation). e.messages) (h.law R agrees) ∙ sym (append-nil c.messages)); heard = h.heard; no_waits = h.no_waits }

-- ---- parked

-- the evaluation, told from the message that asks
parked-law : (p : Program) (c : Seen) (h : IsParked p c) (R : Replies) → AgreesWith c.heard R → evaluation R p
    ≡ preceded c.messages (on.after_replies h.step c.registers (c.turn + c.asked) (λ k registers t. eval R k (drop (c.place + 1) p.steps) registers t) (value_of_replies h.step (replies_from R c.turn c.asked)))
parked-law p c h R agrees =
    let onward : Onward = λ k registers t. eval R k (drop (c.place + 1) p.steps) registers t in
    let rest : Evaluation = on.after_replies h.step c.registers (c.turn + c.asked) onward (value_of_replies h.step (replies_from R c.turn c.asked)) in
    h.law R agrees ∙ ap (λ xs. preceded h.done (eval R 0 xs c.registers c.turn)) h.here
    ∙ ap (preceded h.done) (carried-asks R h.step c.registers c.turn onward (act_of c.registers h.step) h.last c.asked h.asks)
    ∙ preceded-twice h.done (h.last ∷ []) rest ∙ ap (λ ms. preceded ms rest) (sym h.made)

-- so its messages begin those of the evaluation
pub parked-begins : (p : Program) (c : Seen) → IsParked p c → (R : Replies) → AgreesWith c.heard R → (more : List Message) × ((evaluation R p).messages ≡ c.messages ++ more)
parked-begins p c h R agrees = (_, ap (λ (e : Evaluation). e.messages) (parked-law p c h R agrees))

-- where a turn isn't heard, they are the front
pub parked-front : (p : Program) (c : Seen) → IsParked p c → 0 < length c.waits → c.messages ≡ front p c.heard
parked-front p c h some =
    let R : Replies = heard_replies c.heard in
    let agrees : AgreesWith c.heard R = record { same = λ t e. refl } in
    let onward : Onward = λ k registers t. eval R k (drop (c.place + 1) p.steps) registers t in
    let rest : Evaluation = on.after_replies h.step c.registers (c.turn + c.asked) onward (value_of_replies h.step (replies_from R c.turn c.asked)) in
    let waits : 0 < length (unheard c.heard (range_with_len c.turn c.asked)) = rw (← h.waits) some in
    let unknown : list_all (is_heard c.heard) (turns_of h.last) ≡ false = ap (list_all (is_heard c.heard)) (asks-turns c.turn (act_of c.registers h.step) h.last c.asked h.asks) ∙ not-all-heard c.heard (range_with_len c.turn c.asked) waits in
    let law : evaluation R p ≡ preceded h.done (preceded (h.last ∷ []) rest) =
    h.law R agrees ∙ ap (λ xs. preceded h.done (eval R 0 xs c.registers c.turn)) h.here
    ∙ ap (preceded h.done) (carried-asks R h.step c.registers c.turn onward (act_of c.registers h.step) h.last c.asked h.asks) in
    sym (ap (λ (e : Evaluation). until_waiting (is_heard c.heard) e.messages) law ∙ until_waiting-last (is_heard c.heard) h.done h.last rest.messages h.heard unknown ∙ sym h.made)

pub parked-waits : (p : Program) (c : Seen) → IsParked p c → c.waits ≡ unheard c.heard (last_turns c.messages)
parked-waits p c h =
    let turns = asks-turns c.turn (act_of c.registers h.step) h.last c.asked h.asks in
    let last : last_turns c.messages ≡ range_with_len c.turn c.asked = ap last_turns h.made ∙ last_turns-append h.done h.last ∙ turns in
    h.waits ∙ ap (unheard c.heard) (sym last)

-- where it waits for none, all was heard
pub parked-heard : (p : Program) (c : Seen) → IsParked p c → c.waits ≡ [] → are_heard c.heard c.messages ≡ true
parked-heard p c h waits =
    let all : list_all (is_heard c.heard) (range_with_len c.turn c.asked) ≡ true = all-heard c.heard (range_with_len c.turn c.asked) (sym h.waits ∙ waits) in
    ap (are_heard c.heard) h.made
    ∙ are_heard-append c.heard h.done h.last h.heard (ap (list_all (is_heard c.heard)) (asks-turns c.turn (act_of c.registers h.step) h.last c.asked h.asks) ∙ all)

-- ---- after the replies

after_value-follows : (p : Program) (c : Seen) (h : IsParked p c) (r : Result Data Reply) → r ≡ value_of_replies h.step (replies_from (late_replies c) c.turn c.asked) → c.waits ≡ []
    → Leads p (after_value h.step c r).0 (after_value h.step c r).1
after_value-follows p c h r is waits = both r law
  where
    all : list_all (is_heard c.heard) (range_with_len c.turn c.asked) ≡ true
    all = all-heard c.heard (range_with_len c.turn c.asked) (sym h.waits ∙ waits)

    heard : are_heard c.heard c.messages ≡ true
    heard = parked-heard p c h waits

    same : (R : Replies) → AgreesWith c.heard R → replies_from R c.turn c.asked ≡ replies_from (late_replies c) c.turn c.asked
    same R agrees = replies-same R (late_replies c) c.turn c.asked (λ u l m. agrees.same u (known-in-row (is_heard c.heard) c.turn c.asked u all l m) ∙ sym (late-replies c.heard c.heard_before u (h.none_before u l)))

    law : (R : Replies) → AgreesWith c.heard R → evaluation R p
        ≡ preceded c.messages (on.after_replies h.step c.registers (c.turn + c.asked) (λ k registers t. eval R k (drop (c.place + 1) p.steps) registers t) r)
    law R agrees = parked-law p c h R agrees
        ∙ ap (λ x. preceded c.messages (on.after_replies h.step c.registers (c.turn + c.asked) (λ k registers t. eval R k (drop (c.place + 1) p.steps) registers t) x)) (ap (value_of_replies h.step) (same R agrees) ∙ sym is)

    both : (x : Result Data Reply) → ((R : Replies) → AgreesWith c.heard R → evaluation R p
        ≡ preceded c.messages (on.after_replies h.step c.registers (c.turn + c.asked) (λ k registers t. eval R k (drop (c.place + 1) p.steps) registers t) x))
        → Leads p (after_value h.step c x).0 (after_value h.step c x).1
    both (Ok v) l = record {
      law = l;
      heard = heard;
      none_ahead = h.none_ahead;
      no_waits = waits;
      not_asked = refl;
      from_one = (let f = h.from_one in omega arith);
      turns = h.turns;
    }
    both (Err e) l = record { law = λ R agrees. l R agrees ∙ preceded-end c.messages e; heard = heard; no_waits = waits }

-- where the step stands at its place
pub after_replies-leads : (p : Program) (s : Step) (c d : Seen) (q : Progress) → IsParked p c → drop c.place p.steps ≡ s ∷ drop (c.place + 1) p.steps → c.waits ≡ [] → d ≡ (after_replies s c).0 → q ≡ (after_replies s c).1
    → Leads p d q
after_replies-leads p s c d q h here waits is to =
    let same : h.step ∷ drop (c.place + 1) p.steps ≡ s ∷ drop (c.place + 1) p.steps = sym h.here ∙ here in
    let one : h.step ≡ s = cc in
    let P : Seen × Progress → Type 0 = λ x. Leads p x.0 x.1 in
    let e : (d, q) ≡ after_replies h.step c = (λ i. (is i, to i)) ∙ ap (λ x. after_replies x c) (sym one) in
    subst P (sym e) (after_value-follows p c h (value_of_replies h.step (replies_from (late_replies c) c.turn c.asked)) refl waits)

-- ---- what a poll may count on

pub under_way-ready : (p : Program) (c : Seen) → calls_of p.steps ≤ 1024 → IsUnderWay p c → c.waits ≡ [] → IsReady p.steps c
under_way-ready p c few u waits = record {
  run = λ e. let h = u.before e in let t = h.turns in record { no_waits = waits; not_asked = e; turns = omega arith };
  take_replies = λ some. let h = u.parked some in let t = h.turns in record {
    no_waits = waits;
    asked = some;
    place = within (cases_lt c.place (length p.steps)) h.here;
    heard = h.few;
    turns = omega arith;
  };
}
  where
    within : {s : Step} {rest : List Step} → (c.place < length p.steps) ⊎ (length p.steps ≤ c.place) → drop c.place p.steps ≡ s ∷ rest → c.place < length p.steps
    within (inl l) h = l
    within (inr l) h = let e : drop c.place p.steps ≡ [] = drop_all c.place p.steps l in cc
