-- Which calls of ours wait after one more thing happened, by its kind.
use Rattle.std.proofs.Common.{◌≡◌, ◌≢◌, ℕ, ◌+◌, ◌<◌, ◌≤◌, ◌==◌, List, [], ◌∷◌, length, Option, Some, None, Bool, true, false, cond, ◌&&◌, ◌||◌, not, refl, sym, ap, ◌∙◌, arith}
use Rattle.std.specs.Prelude.{is_some}
use Rattle.std.specs.Option.{is_none, option_map_or}
use Rattle.connection_messages.specs.declared.answer.Answer.{Answer}
use Rattle.connection_messages.specs.declared.outgoing.Outgoing.{Outgoing}
use Rattle.connection_messages.specs.declared.unit.Unit.{Unit}
use Rattle.connection_history.specs.declared.close.Close.{Close}
use Rattle.connection_history.specs.Stream.{entries_in, first_reply}
use Rattle.connection_history.specs.History.{Happening, came, called, called_all, noticed, withdrew, answered, ended, History, or_else, units_at, ends, is_over, is_open, callers_at, key_count, caller_of, reply_to, ends_wait, gives_up, is_given_up, is_waiting, Origin}
use Rattle.connection_history.specs.Refusals.{IsLawful}
use Rattle.connection_history.proofs.Histories.{caller_of-came, reply_to-came, open-came, Waits, waits, waiting-from}
use Rattle.connection_history.proofs.Lawful.{caller_known, open_before}
use Rattle.connection_history.proofs.OpenCalls.{open-called, open-called_all, open-noticed, open-withdrew, open-answered, open-answered_other}
use Rattle.connection_history.proofs.OurCalls.{caller_of-made, caller_of-other, caller_of-unmade, caller_of-called, caller_of-called_all, reply_to-said, reply_to-unmade, given_up-unmade, given_up-new}
use Rattle.connection_history.proofs.Tests.{or_else-none_left, or-right}
use Rattle.connection_messages.specs.declared.cancels.Cancels.{Cancels}

-- it is false where it can't be true
pub never : (b : Bool) → (b ≡ true → ⊥) → b ≡ false
never true h = absurd (h refl)
never false h = refl

pub and-false : (b : Bool) → (b && false) ≡ false
and-false true = refl
and-false false = refl

pub and-true : (b : Bool) → (b && true) ≡ b
and-true true = refl
and-true false = refl

-- ---- what the host says

same_open : (k : ℕ) (past : History) (h : Happening) (o : Option ℕ) → caller_of k past ≡ o → ((n : ℕ) → caller_of k past ≡ Some n → is_open n (h ∷ past) ≡ is_open n past)
    → option_map_or (λ n. is_open n (h ∷ past)) o false ≡ option_map_or (λ n. is_open n past) o false
same_open k past h None is opened = refl
same_open k past h (Some n) is opened = opened n is

-- what changes none of its parts leaves it as it is
pub waiting-other : (k : ℕ) (past : History) (h : Happening) → units_at h ≡ [] → ends h ≡ false → gives_up k h ≡ false → caller_of k (h ∷ past) ≡ caller_of k past
    → ((n : ℕ) → caller_of k past ≡ Some n → is_open n (h ∷ past) ≡ is_open n past) → is_waiting k (h ∷ past) ≡ is_waiting k past
waiting-other k past h none going_on kept caller opened =
    (λ i. option_map_or (λ n. is_open n (h ∷ past)) (caller i) false
    && is_none (reply_to-said k past h none i) && not (going_on i || is_over past) && not ((kept i && is_some (caller_of k past)) || is_given_up k past))
    ∙ ap (λ b. b && is_none (reply_to k past) && not (is_over past) && not (is_given_up k past)) (same_open k past h (caller_of k past) refl opened)

-- a notification of ours leaves it as it is
pub waiting-noticed : (k : ℕ) (past : History) (o : Outgoing) → is_waiting k (noticed o ∷ past) ≡ is_waiting k past
waiting-noticed k past o = waiting-other k past (noticed o) refl refl refl (caller_of-other k past (noticed o) refl) (λ n is. open-noticed n past o)

-- where it doesn't give the call up, a withdrawal leaves it as it is
waiting-withdrew_kept : (k : ℕ) (past : History) (by : Cancels) (j : ℕ) → (ends_wait by && (j == k)) ≡ false → is_waiting k (withdrew by j ∷ past) ≡ is_waiting k past
waiting-withdrew_kept k past by j other = waiting-other k past (withdrew by j) refl refl other (caller_of-other k past (withdrew by j) refl) (λ n is. open-withdrew n past by j)

waited_withdrew : (k : ℕ) (past : History) (by : Cancels) (j : ℕ) → Waits k (withdrew by j ∷ past) → Waits k past
waited_withdrew k past by j w = record {
  number = w.number;
  caller = sym (caller_of-other k past (withdrew by j) refl) ∙ w.caller;
  opened = sym (open-withdrew w.number past by j) ∙ w.opened;
  none = sym (reply_to-said k past (withdrew by j) refl) ∙ w.none;
  going_on = w.going_on;
  kept = or-right _ (is_given_up k past) w.kept;
}

given_up_idle : (b made given : Bool) → b ≡ true → made ≡ true → ((b && made) || given) ≡ true
given_up_idle true true given is caller = refl
given_up_idle true false given is caller = absurd (cc)
given_up_idle false made given is caller = absurd (cc)

waiting-withdrew_if : (k : ℕ) (past : History) (by : Cancels) (j : ℕ) (b w : Bool) → (ends_wait by && (j == k)) ≡ b → is_waiting k past ≡ w
    → is_waiting k (withdrew by j ∷ past) ≡ (w && not b)
waiting-withdrew_if k past by j false w is waited = waiting-withdrew_kept k past by j is ∙ waited ∙ sym (and-true w)
waiting-withdrew_if k past by j true true is waited =
    let made : is_some (caller_of k past) ≡ true = ap is_some (waits k past waited).caller in
    never (is_waiting k (withdrew by j ∷ past)) (λ waiting_now.
    let given = given_up_idle (ends_wait by && (j == k)) (is_some (caller_of k past)) (is_given_up k past) is made in
    let kept : (((ends_wait by && (j == k)) && is_some (caller_of k past)) || is_given_up k past) ≡ false = (waits k (withdrew by j ∷ past) waiting_now).kept in
    cc)
waiting-withdrew_if k past by j true false is waited =
    never (is_waiting k (withdrew by j ∷ past)) (λ waiting_now.
    let w = waits k (withdrew by j ∷ past) waiting_now in
    let before = waiting-from k past (waited_withdrew k past by j w) in
    cc)

-- a call that is withdrawn still waits, unless it is given up with that
pub waiting-withdrew : (k : ℕ) (past : History) (by : Cancels) (j : ℕ) → is_waiting k (withdrew by j ∷ past) ≡ (is_waiting k past && not (ends_wait by && (j == k)))
waiting-withdrew k past by j = waiting-withdrew_if k past by j (ends_wait by && (j == k)) (is_waiting k past) refl refl

-- a call that was made before
pub waiting-called_made : (k : ℕ) (past : History) (n : ℕ) (o : Outgoing) → k ≤ key_count past → is_waiting k (called n o ∷ past) ≡ is_waiting k past
waiting-called_made k past n o made = waiting-other k past (called n o) refl refl refl (caller_of-made k past (called n o) made) (λ m is. open-called m past n o)

-- the same for a batch of calls
pub waiting-called_all_made : (k : ℕ) (past : History) (n : ℕ) (os : List Outgoing) → k ≤ key_count past → is_waiting k (called_all n os ∷ past) ≡ is_waiting k past
waiting-called_all_made k past n os made = waiting-other k past (called_all n os) refl refl refl (caller_of-made k past (called_all n os) made) (λ m is. open-called_all m past n os)

-- a call that is made waits
pub waiting-called : (past : History) (n : ℕ) (o : Outgoing) → is_open n past ≡ true → is_over past ≡ false → is_waiting (key_count past + 1) (called n o ∷ past) ≡ true
waiting-called past n o opened going_on =
    let k = key_count past + 1 in
    waiting-from k (called n o ∷ past)
    (record {
      number = n;
      caller = caller_of-called past n o;
      opened = open-called n past n o ∙ opened;
      none = reply_to-said k past (called n o) refl ∙ reply_to-unmade k past (caller_of-unmade k past (omega arith));
      going_on = going_on;
      kept = given_up-unmade k past (caller_of-unmade k past (omega arith));
    })

-- each call of a batch waits
pub waiting-called_all : (k : ℕ) (past : History) (n : ℕ) (os : List Outgoing) → is_open n past ≡ true → is_over past ≡ false → key_count past < k → k ≤ key_count past + length os
    → is_waiting k (called_all n os ∷ past) ≡ true
waiting-called_all k past n os opened going_on new h =
    waiting-from k (called_all n os ∷ past)
    (record {
      number = n;
      caller = caller_of-called_all k past n os new h;
      opened = open-called_all n past n os ∙ opened;
      none = reply_to-said k past (called_all n os) refl ∙ reply_to-unmade k past (caller_of-unmade k past new);
      going_on = going_on;
      kept = given_up-unmade k past (caller_of-unmade k past new);
    })

key_made : (k : ℕ) (past : History) (h : Happening) (n : ℕ) → callers_at h ≡ [] → key_count past < k → caller_of k (h ∷ past) ≡ Some n → ⊥
key_made k past h n none new is = let unmade : caller_of k (h ∷ past) ≡ None = caller_of-other k past h none ∙ caller_of-unmade k past new in cc

-- what is newly made waits, for a number that is open
new_waits : (k : ℕ) (past : History) (h : Happening) (n : ℕ) → units_at h ≡ [] → ends h ≡ false → is_open n (h ∷ past) ≡ is_open n past → key_count past < k → caller_of k (h ∷ past) ≡ Some n
    → is_open n past ≡ true → is_over past ≡ false → is_waiting k (h ∷ past) ≡ true
new_waits k past h n none on opens new is opened going_on =
    waiting-from k (h ∷ past)
    (record {
      number = n;
      caller = is;
      opened = opens ∙ opened;
      none = reply_to-said k past h none ∙ reply_to-unmade k past (caller_of-unmade k past new);
      going_on = ap (λ b. b || is_over past) on ∙ going_on;
      kept = given_up-new k past h (caller_of-unmade k past new);
    })

-- a call that is made waits, whatever came before it
pub made_waits : (past : History) (h : Happening) (k n : ℕ) → key_count past < k → caller_of k (h ∷ past) ≡ Some n → is_open n past ≡ true → is_over past ≡ false → is_waiting k (h ∷ past) ≡ true
made_waits past (came from u) k n new is opened going_on = absurd (key_made k past (came from u) n refl new is)
made_waits past (called m o) k n new is opened going_on = new_waits k past (called m o) n refl refl (open-called n past m o) new is opened going_on
made_waits past (called_all m os) k n new is opened going_on = new_waits k past (called_all m os) n refl refl (open-called_all n past m os) new is opened going_on
made_waits past (noticed o) k n new is opened going_on = absurd (key_made k past (noticed o) n refl new is)
made_waits past (withdrew by j) k n new is opened going_on = absurd (key_made k past (withdrew by j) n refl new is)
made_waits past (answered m a) k n new is opened going_on = absurd (key_made k past (answered m a) n refl new is)
made_waits past (ended close) k n new is opened going_on = absurd (key_made k past (ended close) n refl new is)

-- the answer to another number leaves it as it is
pub waiting-answered_other : (k : ℕ) (past : History) (m : ℕ) (a : Option Answer) → ((n : ℕ) → caller_of k past ≡ Some n → m ≢ n) → is_waiting k (answered m a ∷ past) ≡ is_waiting k past
waiting-answered_other k past m a other =
    waiting-other k past (answered m a) refl refl refl (caller_of-other k past (answered m a) refl) (λ n is. open-answered_other n m past a (other n is))

-- once its number is answered, a call waits no more
pub waiting-answered : (k : ℕ) (past : History) (m : ℕ) (a : Option Answer) → 0 < m → caller_of k past ≡ Some m → is_waiting k (answered m a ∷ past) ≡ false
waiting-answered k past m a some is =
    let caller : caller_of k (answered m a ∷ past) ≡ Some m = caller_of-other k past (answered m a) refl ∙ is in
    (λ i. option_map_or (λ n. is_open n (answered m a ∷ past)) (caller i) false && is_none (reply_to k (answered m a ∷ past)) && not (is_over past) && not (is_given_up k past))
    ∙ ap (λ b. b && is_none (reply_to k (answered m a ∷ past)) && not (is_over past) && not (is_given_up k past)) (open-answered m past a some)

-- at the end no call waits
pub waiting-ended : (k : ℕ) (past : History) (close : Close) → is_waiting k (ended close ∷ past) ≡ false
waiting-ended k past close = ap (λ b. b && not (is_given_up k past)) (and-false _)

-- ---- what comes

-- Where nothing was refused, what comes makes no call wait.
pub waited_before : (cancels : Option Cancels) (k : ℕ) (past : History) (from : Option Origin) (u : Unit) → IsLawful cancels past → Waits k (came from u ∷ past) → Waits k past
waited_before cancels k past from u lawful w =
    let caller : caller_of k past ≡ Some w.number = sym (caller_of-came k past from u) ∙ w.caller in
    record {
      number = w.number;
      caller = caller;
      opened = open_before w.number past from u (caller_known cancels k past w.number lawful caller) w.opened;
      none = or_else-none_left (reply_to k past) _ (sym (reply_to-came k past from u) ∙ w.none);
      going_on = w.going_on;
      kept = w.kept;
    }

came_if : (cancels : Option Cancels) (k : ℕ) (past : History) (from : Option Origin) (u : Unit) (b : Bool) → IsLawful cancels past → is_waiting k past ≡ b → is_waiting k (came from u ∷ past) ≡ (b && is_none (first_reply k (entries_in u)))
came_if cancels k past from u true lawful is =
    let w = waits k past is in
    let caller : caller_of k (came from u ∷ past) ≡ Some w.number = caller_of-came k past from u ∙ w.caller in
    let reply : reply_to k (came from u ∷ past) ≡ first_reply k (entries_in u) =
    reply_to-came k past from u ∙ (λ i. or_else (w.none i) (cond (is_some (w.caller i)) (first_reply k (entries_in u)) None)) in
    (λ i. option_map_or (λ n. is_open n (came from u ∷ past)) (caller i) false && is_none (reply i) && not (w.going_on i) && not (w.kept i))
    ∙ ap (λ b. b && is_none (first_reply k (entries_in u)) && true && true) (open-came w.number past from u w.opened)
    ∙ and-true (is_none (first_reply k (entries_in u)) && true) ∙ and-true (is_none (first_reply k (entries_in u)))
came_if cancels k past from u false lawful is =
    never (is_waiting k (came from u ∷ past)) (λ waiting_now.
    let before = waiting-from k past (waited_before cancels k past from u lawful (waits k (came from u ∷ past) waiting_now)) in
    cc)

-- when a unit comes, a call waits on unless its reply is there
pub waiting-came : (cancels : Option Cancels) (k : ℕ) (past : History) (from : Option Origin) (u : Unit) → IsLawful cancels past → is_waiting k (came from u ∷ past) ≡ (is_waiting k past && is_none (first_reply k (entries_in u)))
waiting-came cancels k past from u lawful = came_if cancels k past from u (is_waiting k past) lawful refl
