-- What a poll answers, and what it leaves.
use Rattle.std.proofs.Common.{◌≡◌, ◌≢◌, ℕ, ◌+◌, ◌≤◌, ◌<◌, List, [], ◌∷◌, ◌++◌, length, All, true, not, Some, None, refl, ap, sym, ◌∙◌, subst, arith, append-nil, ◌⊎◌, inl, inr}
use Rattle.std.proofs.lemmas.Bool.{cases_lt}
use Rattle.std.proofs.lemmas.List.Elements.{All-filter, All-same, All-nil, All-cons, All-head, All-tail}
use Rattle.std.proofs.lemmas.List.FromFn.{length-range_with_len, get_or-range_with_len}
use Rattle.std.specs.List.{range_with_len, list_all}
use Rattle.rpc_messages.specs.declared.reply.Reply.{Reply}
use Rattle.method_templates.specs.Steps.{AreWithinLimits, calls_of}
use Rattle.handler_future.specs.declared.outcome.Outcome.TheVariants.{Answer, Failed}
use Rattle.handler_future.specs.declared.message.Message.{Message}
use Rattle.handler_future.specs.declared.phase.Phase.{Phase}
use Rattle.handler_future.specs.declared.phase.Phase.TheVariants as phases
use Rattle.handler_future.specs.Inner.Course.{Seen}
use Rattle.handler_future.specs.Evaluation.{Replies, Program, evaluation}
use Rattle.handler_future.specs.Front.{Heard, AgreesWith, HasTurnsUpTo, heard_replies, is_heard, turns_of, unheard, are_heard, last_turns}
use Rattle.handler_future.specs.Inner.Running.{Stays}
use Rattle.handler_future.specs.Inner.Standing.{IsParked, IsUnderWay, HasCome, Begins, Stands}
use Rattle.handler_future.specs.State.{HandlerState, IsWaiting, IsPoll, AddsNotices, AddsCalls, phase_after}
use Rattle.handler_future.proofs.Follows.{parked-front, parked-waits, parked-begins, stands-begins}
use Rattle.handler_future.proofs.Heards.{and-left, and-right}
use Rattle.handler_future.proofs.Within.{evaluation-within}

abbrev pub state_at : ℕ → Program → Seen → Phase → HandlerState
state_at n p c phase = record { number = n; program = p; messages = c.messages; heard = c.heard; waits = c.waits; phase = phase }

-- ---- waits

row-within : (p : Program) (t k : ℕ) → 1 ≤ t → t + k ≤ 1 + calls_of p.steps → All (λ u. (1 ≤ u) × (u ≤ calls_of p.steps)) (range_with_len t k)
row-within p t k one most = λ i d l. let e = get_or-range_with_len t k i d (let n = length-range_with_len t k in omega arith) in let n = length-range_with_len t k in (omega arith, omega arith)

pub parked-within : (p : Program) (c : Seen) → IsParked p c → All (λ t. (1 ≤ t) × (t ≤ calls_of p.steps)) c.waits
parked-within p c h =
    let t = h.turns in
    let P : List ℕ → Type 0 = λ ts. All (λ t. (1 ≤ t) × (t ≤ calls_of p.steps)) ts in
    subst P (sym h.waits) (All-filter (λ u. not (is_heard c.heard u)) (λ t. (1 ≤ t) × (t ≤ calls_of p.steps)) (range_with_len c.turn c.asked) (row-within p c.turn c.asked h.from_one (omega arith)))

none-within : (p : Program) (ts : List ℕ) → ts ≡ [] → All (λ t. (1 ≤ t) × (t ≤ calls_of p.steps)) ts
none-within p ts e = let P : List ℕ → Type 0 = λ ts. All (λ t. (1 ≤ t) × (t ≤ calls_of p.steps)) ts in subst P (sym e) (λ i d l. absurd (omega arith))

pub under_way-within : (p : Program) (c : Seen) → IsUnderWay p c → All (λ t. (1 ≤ t) × (t ≤ calls_of p.steps)) c.waits
under_way-within p c u = either (cases_lt 0 c.asked)
  where
    either : (0 < c.asked) ⊎ (c.asked ≤ 0) → All (λ t. (1 ≤ t) × (t ≤ calls_of p.steps)) c.waits
    either (inl some) = parked-within p c (u.parked some)
    either (inr none) = none-within p c.waits ((u.before (omega arith)).no_waits)

pub begun-within : (p : Program) (c : Seen) → Begins p c → All (λ t. (1 ≤ t) × (t ≤ calls_of p.steps)) c.waits
begun-within p c b = none-within p c.waits b.no_waits

-- ---- the last message's turns

none-unheard : (heard : Heard) (ts : List ℕ) → list_all (is_heard heard) ts ≡ true → unheard heard ts ≡ []
none-unheard heard [] h = refl
none-unheard heard (t ∷ ts) h = rw (and-left (is_heard heard t) (list_all (is_heard heard) ts) h) (none-unheard heard ts (and-right (is_heard heard t) (list_all (is_heard heard) ts) h))

last-heard : (heard : Heard) (ms : List Message) → are_heard heard ms ≡ true → list_all (is_heard heard) (last_turns ms) ≡ true
last-heard heard [] h = refl
last-heard heard (m ∷ []) h = and-left (list_all (is_heard heard) (turns_of m)) (are_heard heard []) h
last-heard heard (m ∷ n ∷ ms) h = last-heard heard (n ∷ ms) (and-right (list_all (is_heard heard) (turns_of m)) (are_heard heard (n ∷ ms)) h)

none-waits : (c : Seen) → are_heard c.heard c.messages ≡ true → c.waits ≡ [] → c.waits ≡ unheard c.heard (last_turns c.messages)
none-waits c heard none = none ∙ sym (none-unheard c.heard (last_turns c.messages) (last-heard c.heard c.messages heard))

under_way-waits : (p : Program) (c : Seen) → IsUnderWay p c → c.waits ≡ unheard c.heard (last_turns c.messages)
under_way-waits p c u = either (cases_lt 0 c.asked)
  where
    either : (0 < c.asked) ⊎ (c.asked ≤ 0) → c.waits ≡ unheard c.heard (last_turns c.messages)
    either (inl some) = parked-waits p c (u.parked some)
    either (inr none) = let b = u.before (omega arith) in none-waits c b.heard b.no_waits

-- It waits for the turns of the last message that weren't heard.
pub stands-waits : (p : Program) (phase : Phase) (c : Seen) → Stands p phase c → c.waits ≡ unheard c.heard (last_turns c.messages)
stands-waits p phases.UnderWay c h = under_way-waits p c h
stands-waits p phases.Answered c h = none-waits c h.heard h.no_waits
stands-waits p phases.Failed c h = none-waits c h.heard h.no_waits

-- ---- all turns

all-front : (P : Message → Type 0) (xs ys : List Message) → All P (xs ++ ys) → All P xs
all-front P [] ys h = All-nil P
all-front P (x ∷ xs) ys h = All-cons P x xs (All-head P x (xs ++ ys) h) (all-front P xs ys (All-tail P x (xs ++ ys) h))

begun-turns : (p : Program) (c : Seen) → AreWithinLimits p.steps → ((R : Replies) → AgreesWith c.heard R → (more : List Message) × ((evaluation R p).messages ≡ c.messages ++ more))
    → All (HasTurnsUpTo (calls_of p.steps)) c.messages
begun-turns p c limits law =
    let R : Replies = heard_replies c.heard in
    let begins = law R (record { same = λ t e. refl }) in
    all-front (HasTurnsUpTo (calls_of p.steps)) c.messages begins.0 (All-same (HasTurnsUpTo (calls_of p.steps)) (c.messages ++ begins.0) (evaluation R p).messages (sym begins.1) (evaluation-within p R limits))

under_way-turns : (p : Program) (c : Seen) → AreWithinLimits p.steps → IsUnderWay p c → All (HasTurnsUpTo (calls_of p.steps)) c.messages
under_way-turns p c limits u = either (cases_lt 0 c.asked)
  where
    either : (0 < c.asked) ⊎ (c.asked ≤ 0) → All (HasTurnsUpTo (calls_of p.steps)) c.messages
    either (inl some) = begun-turns p c limits (parked-begins p c (u.parked some))
    either (inr none) = begun-turns p c limits (stands-begins p c (u.before (omega arith))).law

pub stands-turns : (p : Program) (phase : Phase) (c : Seen) → AreWithinLimits p.steps → Stands p phase c → All (HasTurnsUpTo (calls_of p.steps)) c.messages
stands-turns p phases.UnderWay c limits h = under_way-turns p c limits h
stands-turns p phases.Answered c limits h = begun-turns p c limits h.law
stands-turns p phases.Failed c limits h = begun-turns p c limits h.law

pub stands-within : (p : Program) (phase : Phase) (c : Seen) → Stands p phase c → All (λ t. (1 ≤ t) × (t ≤ calls_of p.steps)) c.waits
stands-within p phases.UnderWay c h = under_way-within p c h
stands-within p phases.Answered c h = begun-within p c h
stands-within p phases.Failed c h = begun-within p c h

-- ---- polls

parked-waiting : (n : ℕ) (p : Program) (c : Seen) → IsParked p c → 0 < length c.waits → IsWaiting (state_at n p c phases.UnderWay)
parked-waiting n p c h some = record {
  messages = parked-front p c h some;
  waits = parked-waits p c h;
  some = some;
  within = parked-within p c h;
  under_way = refl;
}

-- a list has some or none
waits-none : (ts : List ℕ) → ts ≡ [] → 0 < length ts → ⊥
waits-none ts none some = let e = ap length none in absurd (omega arith)

pub poll-again : (n : ℕ) (p : Program) (c : Seen) → IsUnderWay p c → 0 < length c.waits → IsPoll (state_at n p c phases.UnderWay) (state_at n p c phases.UnderWay) None
poll-again n p c u some = record {
  same_number = refl;
  same_program = refl;
  same_heard = refl;
  messages_stay = ([], sym (append-nil c.messages));
  adds = λ none. absurd (waits-none c.waits none some);
  while_waiting = λ _. (refl, refl);
  leaves = either (cases_lt 0 c.asked);
  waits = under_way-waits p c u;
  phase = refl;
  after_ready = λ over. absurd (over refl);
}
  where
    either : (0 < c.asked) ⊎ (c.asked ≤ 0) → IsWaiting (state_at n p c phases.UnderWay)
    either (inl asked) = parked-waiting n p c (u.parked asked) some
    either (inr none) = let e = ap length ((u.before (omega arith)).no_waits) in absurd (omega arith)

-- a poll that ends
pub poll-ended : (n : ℕ) (p : Program) (c d : Seen) (r : Reply) → c.waits ≡ [] → HasCome p d r → Stays c d → AddsNotices c.messages d.messages []
    → IsPoll (state_at n p c phases.UnderWay) (state_at n p d phases.Answered) (Some (Answer r))
poll-ended n p c d r none h stays adds = record {
  same_number = refl;
  same_program = refl;
  same_heard = stays.heard;
  messages_stay = stays.messages;
  adds = λ _. adds;
  while_waiting = λ some. absurd (waits-none c.waits none some);
  leaves = record { heard = h.heard; evaluated = h.law; no_waits = h.no_waits; over = refl };
  waits = none-waits d h.heard h.no_waits;
  phase = refl;
  after_ready = λ over. absurd (over refl);
}

-- a poll that waits
pub poll-waits : (n : ℕ) (p : Program) (c d : Seen) → c.waits ≡ [] → IsParked p d × (0 < length d.waits) → Stays c d → AddsCalls c.messages d.messages
    → IsPoll (state_at n p c phases.UnderWay) (state_at n p d phases.UnderWay) None
poll-waits n p c d none h stays adds = record {
  same_number = refl;
  same_program = refl;
  same_heard = stays.heard;
  messages_stay = stays.messages;
  adds = λ _. adds;
  while_waiting = λ some. absurd (waits-none c.waits none some);
  leaves = parked-waiting n p d h.0 h.1;
  waits = parked-waits p d h.0;
  phase = refl;
  after_ready = λ over. absurd (over refl);
}

pub parked-under_way : (p : Program) (d : Seen) → IsParked p d → IsUnderWay p d
parked-under_way p d h = record { before = λ e. let s = h.some in absurd (omega arith); parked = λ _. h }

-- a poll that fails
pub poll-failed : (n : ℕ) (p : Program) (c d : Seen) → c.waits ≡ [] → Begins p d → Stays c d → AddsNotices c.messages d.messages []
    → IsPoll (state_at n p c phases.UnderWay) (state_at n p d phases.Failed) (Some Failed)
poll-failed n p c d none b stays adds = record {
  same_number = refl;
  same_program = refl;
  same_heard = stays.heard;
  messages_stay = stays.messages;
  adds = λ _. adds;
  while_waiting = λ some. absurd (waits-none c.waits none some);
  leaves = record { begins = b.law; no_waits = b.no_waits; over = λ e. cc };
  waits = none-waits d b.heard b.no_waits;
  phase = refl;
  after_ready = λ over. absurd (over refl);
}

pub over-begins : (p : Program) (phase : Phase) (c : Seen) → phase ≢ phases.UnderWay → Stands p phase c → Begins p c
over-begins p phases.UnderWay c over h = absurd (over refl)
over-begins p phases.Answered c over h = h
over-begins p phases.Failed c over h = h

-- a poll after one that was ready
pub poll-over : (n : ℕ) (p : Program) (c : Seen) (phase : Phase) → phase ≢ phases.UnderWay → Begins p c → IsPoll (state_at n p c phase) (state_at n p c phase) (Some Failed)
poll-over n p c phase over b = record {
  same_number = refl;
  same_program = refl;
  same_heard = refl;
  messages_stay = ([], sym (append-nil c.messages));
  adds = λ _. record { notices = []; made = sym (append-nil c.messages) };
  while_waiting = λ some. absurd (waits-none c.waits b.no_waits some);
  leaves = record { begins = b.law; no_waits = b.no_waits; over = over };
  waits = none-waits c b.heard b.no_waits;
  phase = same phase over;
  after_ready = λ _. (refl, refl);
}
  where
    same : (f : Phase) → f ≢ phases.UnderWay → f ≡ phase_after f (Some Failed)
    same phases.UnderWay g = absurd (g refl)
    same phases.Answered g = refl
    same phases.Failed g = refl
