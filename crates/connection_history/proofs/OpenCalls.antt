-- Which calls are open after one more thing happened, by its kind.
use Rattle.std.proofs.Common.{◌≡◌, ◌≢◌, ℕ, zero, suc, ◌<◌, ◌≤◌, List, [], ◌∷◌, ◌++◌, Option, Some, None, Bool, true, false, cond, ◌&&◌, refl, ap, ◌∙◌, append-nil, arith}
use Rattle.std.specs.Prelude.{is_some}
use Rattle.std.specs.Option.{is_none}
use Rattle.connection_messages.specs.declared.answer.Answer.{Answer}
use Rattle.connection_messages.specs.declared.outgoing.Outgoing.{Outgoing}
use Rattle.connection_messages.specs.declared.unit.Unit.{Unit}
use Rattle.connection_history.specs.declared.close.Close.{Close}
use Rattle.connection_history.specs.Stream.{entries_in, entries_along, call_numbered}
use Rattle.connection_history.specs.Events.{call_count}
use Rattle.connection_history.specs.History.{Happening, came, called, called_all, noticed, withdrew, answered, ended, History, or_else, units_at, stream, answer_at, answer_to, is_open, Origin}
use Rattle.connection_history.proofs.Histories.{stream-more, stream-came, answer_to-came, open-from}
use Rattle.connection_history.proofs.Streams.{call_numbered-front, call_numbered-known, call_numbered-unknown}
use Rattle.connection_history.proofs.Tests.{same_test, different, or_else-none}
use Rattle.connection_messages.specs.declared.cancels.Cancels.{Cancels}

-- ---- what the host says

-- where nothing comes, the stream stays
pub stream-said : (past : History) (h : Happening) → units_at h ≡ [] → stream (h ∷ past) ≡ stream past
stream-said past h none = stream-more past h ∙ ap (λ us. stream past ++ entries_along us) none ∙ append-nil (stream past)

-- what neither comes nor answers the call leaves it as it is
pub open-other : (n : ℕ) (past : History) (h : Happening) → units_at h ≡ [] → answer_at n h ≡ None → is_open n (h ∷ past) ≡ is_open n past
open-other zero past h none silent = refl
open-other (suc n) past h none silent =
    let answer : answer_to (suc n) (h ∷ past) ≡ answer_to (suc n) past = ap (or_else (answer_to (suc n) past)) silent ∙ or_else-none (answer_to (suc n) past) in
    λ i. is_some (call_numbered (suc n) (stream-said past h none i)) && is_none (answer i)

-- a call of ours
pub open-called : (n : ℕ) (past : History) (m : ℕ) (o : Outgoing) → is_open n (called m o ∷ past) ≡ is_open n past
open-called n past m o = open-other n past (called m o) refl refl

-- a batch of calls
pub open-called_all : (n : ℕ) (past : History) (m : ℕ) (os : List Outgoing) → is_open n (called_all m os ∷ past) ≡ is_open n past
open-called_all n past m os = open-other n past (called_all m os) refl refl

-- a notification of ours
pub open-noticed : (n : ℕ) (past : History) (o : Outgoing) → is_open n (noticed o ∷ past) ≡ is_open n past
open-noticed n past o = open-other n past (noticed o) refl refl

-- a withdrawal
pub open-withdrew : (n : ℕ) (past : History) (by : Cancels) (k : ℕ) → is_open n (withdrew by k ∷ past) ≡ is_open n past
open-withdrew n past by k = open-other n past (withdrew by k) refl refl

-- the end of the input
pub open-ended : (n : ℕ) (past : History) (close : Close) → is_open n (ended close ∷ past) ≡ is_open n past
open-ended n past close = open-other n past (ended close) refl refl

-- an answer to another call leaves it as it is
pub open-answered_other : (n m : ℕ) (past : History) (a : Option Answer) → m ≢ n → is_open n (answered m a ∷ past) ≡ is_open n past
open-answered_other n m past a other = open-other n past (answered m a) refl (ap (λ b. cond b (Some a) None) (different m n other))

closed : (o : Option (Option Answer)) (a : Option Answer) (b : Bool) → (b && is_none (or_else o (Some a))) ≡ false
closed None a true = refl
closed None a false = refl
closed (Some c) a true = refl
closed (Some c) a false = refl

-- its answer closes it
pub open-answered : (n : ℕ) (past : History) (a : Option Answer) → 0 < n → is_open n (answered n a ∷ past) ≡ false
open-answered zero past a some = absurd (omega arith)
open-answered (suc n) past a some =
    let known = is_some (call_numbered (suc n) (stream (answered (suc n) a ∷ past))) in
    ap (λ b. known && is_none (or_else (answer_to (suc n) past) (cond b (Some a) None))) (same_test (suc n) (suc n) refl)
    ∙ closed (answer_to (suc n) past) a known

-- ---- what comes

-- a call that has come stays as it is
pub open-came_known : (n : ℕ) (past : History) (from : Option Origin) (u : Unit) → n ≤ call_count past → is_open n (came from u ∷ past) ≡ is_open n past
open-came_known zero past from u h = refl
open-came_known (suc n) past from u h =
    let known : call_numbered (suc n) (stream (came from u ∷ past)) ≡ call_numbered (suc n) (stream past) =
    ap (call_numbered (suc n)) (stream-came past from u) ∙ call_numbered-front (suc n) (stream past) (entries_in u) h in
    λ i. is_some (known i) && is_none (answer_to-came (suc n) past from u i)

-- a call that hasn't come isn't open
pub open-unknown : (n : ℕ) (history : History) → call_count history < n → is_open n history ≡ false
open-unknown zero history h = absurd (omega arith)
open-unknown (suc n) history h = ap (λ o. is_some o && is_none (answer_to (suc n) history)) (call_numbered-unknown (suc n) (stream history) h)

-- a call that comes is open
pub open-new : (n : ℕ) (past : History) (from : Option Origin) (u : Unit) → 0 < n → n ≤ call_count (came from u ∷ past) → answer_to n past ≡ None → is_open n (came from u ∷ past) ≡ true
open-new n past from u some h none =
    let c = call_numbered-known n (stream (came from u ∷ past)) some h in
    open-from n (came from u ∷ past) c.0 c.1 (answer_to-came n past from u ∙ none)
