-- A request waits until something ends it, and then never again.
use Rattle.std.proofs.Common.{◌≡◌, ℕ, zero, suc, ◌+◌, ◌-◌, ◌<◌, ◌≤◌, ◌==◌, List, [], ◌∷◌, ◌++◌, length, map, Option, Some, None, Bool, true, false, cond, ◌&&◌, ◌||◌, not, refl, sym, ap, subst, ◌∙◌, append-nil, arith}
use Rattle.std.specs.Prelude.{slice_get, is_some, option_map, nat_lt}
use Rattle.std.specs.Option.{is_none, option_map_or}
use Rattle.connection_messages.specs.declared.answer.Answer.{Answer}
use Rattle.connection_messages.specs.declared.cancels.Cancels.{Cancels}
use Rattle.connection_messages.specs.declared.outgoing.Outgoing.{Outgoing}
use Rattle.connection_messages.specs.declared.reply.Reply.{Reply as Replied}
use Rattle.connection_messages.specs.declared.unit.Unit.{Unit}
use Rattle.connection_history.specs.declared.refused.Refused.{Refused}
use Rattle.connection_history.specs.declared.refused.Refused.TheVariants.{NotOpen, Over, Empty, Full}
use Rattle.connection_history.specs.Refusals.{IsLawful, first_of, call_refusal, refusal, is_left, may_be_left, most_keys}
use Rattle.connection_history.specs.Stream.{entries_in, first_reply, entries_along}
use Rattle.connection_history.specs.History.{Happening, came, called, called_all, noticed, withdrew, answered, ended, History, or_else, ends, is_over, answer_at, answer_to, is_open, callers, key_count, caller_of, callers_at, reply_to, ends_wait, gives_up, is_given_up, is_waiting, units_at, Origin}
use Rattle.call_laws.specs.Endings.{Ending, replied, given_up, caller_closed, ending_at}
use Rattle.call_laws.proofs.Tests.{same, same_test, and-left, and-right, not-true, is_none-none}
use Rattle.call_laws.proofs.Histories.{slice_get-beyond, slice_get-past, open-kept, answer_to-kept, answered_closed, caller_of-kept, reply_to-kept, reply_to-none, reply_to-some}

-- ---- the parts of waiting

pub record Waits (k : ℕ) (history : History) : Type 0 where
  pub number : ℕ
  pub caller : caller_of k history ≡ Some number
  pub opened : is_open number history ≡ true
  pub none : reply_to k history ≡ None
  pub going_on : is_over history ≡ false
  pub kept : is_given_up k history ≡ false

waits_for : (k : ℕ) (history : History) (o : Option ℕ) → caller_of k history ≡ o
    → (option_map_or (λ n. is_open n history) o false && is_none (reply_to k history) && not (is_over history) && not (is_given_up k history)) ≡ true → Waits k history
waits_for k history None is h = absurd (cc)
waits_for k history (Some n) is h =
    let three = and-left (is_open n history && is_none (reply_to k history) && not (is_over history)) (not (is_given_up k history)) h in
    let both = and-left (is_open n history && is_none (reply_to k history)) (not (is_over history)) three in
    record {
      number = n;
      caller = is;
      opened = and-left (is_open n history) (is_none (reply_to k history)) both;
      none = is_none-none (reply_to k history) (and-right (is_open n history) (is_none (reply_to k history)) both);
      going_on = not-true (is_over history) (and-right (is_open n history && is_none (reply_to k history)) (not (is_over history)) three);
      kept = not-true (is_given_up k history) (and-right (is_open n history && is_none (reply_to k history) && not (is_over history)) (not (is_given_up k history)) h);
    }

-- a request that waits has each part of that
pub waits : (k : ℕ) (history : History) → is_waiting k history ≡ true → Waits k history
waits k history h = waits_for k history (caller_of k history) refl h

-- and each part makes it wait
pub waiting-from : (k : ℕ) (history : History) → Waits k history → is_waiting k history ≡ true
waiting-from k history w =
    ap (λ o. option_map_or (λ n. is_open n history) o false && is_none (reply_to k history) && not (is_over history) && not (is_given_up k history)) w.caller
    ∙ (λ i. w.opened i && is_none (w.none i) && not (w.going_on i) && not (w.kept i))

-- ---- it is closed for good

pub data IsClosed (k n : ℕ) (history : History) : Type 0 where
  by_caller : (m : ℕ) (a : Option Answer) → n ≡ suc m → answer_to (suc m) history ≡ Some a → IsClosed k n history
  by_reply : (r : Replied) → reply_to k history ≡ Some r → IsClosed k n history
  by_end : is_over history ≡ true → IsClosed k n history
  by_cancel : is_given_up k history ≡ true → IsClosed k n history

or-true : (b : Bool) → (b || true) ≡ true
or-true true = refl
or-true false = refl

pub closed_stays : (k n : ℕ) (past : History) (h : Happening) → IsClosed k n past → IsClosed k n (h ∷ past)
closed_stays k n past h (by_caller m a is answer) = by_caller m a is (answer_to-kept (suc m) past h a answer)
closed_stays k n past h (by_reply r is) = by_reply r (reply_to-kept k past h r is)
closed_stays k n past h (by_end is) = by_end (ap (λ b. ends h || b) is ∙ or-true (ends h))
closed_stays k n past h (by_cancel is) = by_cancel (ap (λ b. (gives_up k h && is_some (caller_of k past)) || b) is ∙ or-true (gives_up k h && is_some (caller_of k past)))

never : (b : Bool) → (b ≡ true → ⊥) → b ≡ false
never true h = absurd (h refl)
never false h = refl

not_waiting : (k n : ℕ) (history : History) → caller_of k history ≡ Some n → IsClosed k n history → Waits k history → ⊥
not_waiting k n history made (by_caller m a is answer) w =
    let closed = answered_closed m history a answer in
    let number : w.number ≡ suc m = (let caller = w.caller in cc) in
    let opened : is_open (suc m) history ≡ true = subst (λ l. is_open l history ≡ true) number w.opened in
    cc
not_waiting k n history made (by_reply r is) w = let none = w.none in cc
not_waiting k n history made (by_end is) w = let on = w.going_on in cc
not_waiting k n history made (by_cancel is) w = let kept = w.kept in cc

pub closed_idle : (k n : ℕ) (history : History) → caller_of k history ≡ Some n → IsClosed k n history → is_waiting k history ≡ false
closed_idle k n history made closed = never (is_waiting k history) (λ waiting_now. not_waiting k n history made closed (waits k history waiting_now))

-- ---- what ends it

-- the test that wasn't met
passed : (b : Bool) (why : Refused) (tests : List (Bool × Refused)) → first_of ((b, why) ∷ tests) ≡ None → b ≡ false
passed true why tests h = absurd (cc)
passed false why tests h = refl

or_first : (a b : Bool) → (a || b) ≡ false → a ≡ false
or_first true b h = h
or_first false b h = refl

some_of : {A : Type 0} (b : Bool) (x y : A) → cond b (Some x) None ≡ Some y → b ≡ true
some_of true x y h = refl
some_of false x y h = absurd (cc)

unanswered_open : (n : ℕ) (past : History) → is_open (suc n) past ≡ true → answer_to (suc n) past ≡ None
unanswered_open n past opened = is_none-none (answer_to (suc n) past) (and-right _ (is_none (answer_to (suc n) past)) opened)

pub value_of : {A : Type 0} (b : Bool) (x y : A) → cond b (Some x) None ≡ Some y → x ≡ y
value_of true x y h = cc
value_of false x y h = absurd (cc)

pub replies_by : (o : Option Replied) (e : Ending) → option_map replied o ≡ Some e → (r : Replied) × (o ≡ Some r) × (e ≡ replied r)
replies_by None e h = absurd (cc)
replies_by (Some r) e h = (r, refl, (cc))

-- what ends it closes it
pub ends_closes : (cancels : Option Cancels) (k n : ℕ) (past : History) (h : Happening) (e : Ending) → IsLawful cancels (h ∷ past) → Waits k past → caller_of k past ≡ Some n → ending_at k n h ≡ Some e → IsClosed k n (h ∷ past)
ends_closes cancels k n past (came o u) e lawful w made is =
    let reply = replies_by (first_reply k (entries_in u)) e is in
    by_reply reply.0 (reply_to-some k past (came o u) n reply.0 made w.none (ap (first_reply k) (append-nil (entries_in u)) ∙ reply.1))
ends_closes cancels k n past (called m o) e lawful w made is = absurd (cc)
ends_closes cancels k n past (called_all m os) e lawful w made is = absurd (cc)
ends_closes cancels k n past (noticed o) e lawful w made is = absurd (cc)
ends_closes cancels k n past (withdrew by j) e lawful w made is =
    by_cancel (λ i. (some_of (ends_wait by && (j == k)) given_up e is i && is_some (made i)) || w.kept i)
ends_closes cancels k n past (answered m a) e lawful w made is =
    let it : m ≡ n = same m n (some_of (m == n) caller_closed e is) in
    from m lawful it
  where
    from : (m : ℕ) → IsLawful cancels (answered m a ∷ past) → m ≡ n → IsClosed k n (answered m a ∷ past)
    from zero lawful it = absurd (let not_zero = or_first (0 == 0) (not (is_open 0 past)) (passed _ NotOpen ((is_left a && not (may_be_left cancels 0 past), Empty) ∷ []) lawful.0) in cc)
    from (suc m) lawful it =
        let number : w.number ≡ suc m = (let caller = w.caller in cc) in
        let opened : is_open (suc m) past ≡ true = subst (λ l. is_open l past ≡ true) number w.opened in
        by_caller m a (sym it) (λ i. or_else (unanswered_open m past opened i) (cond (same_test (suc m) (suc m) refl i) (Some a) None))
ends_closes cancels k n past (ended close) e lawful w made is = by_end refl

-- ---- what doesn't end it

none_of : {A : Type 0} (b : Bool) (x : A) → cond b (Some x) None ≡ None → b ≡ false
none_of true x h = absurd (cc)
none_of false x h = refl

no_reply : (o : Option Replied) → option_map replied o ≡ None → o ≡ None
no_reply None h = refl
no_reply (Some r) h = absurd (cc)

still : (k n : ℕ) (past : History) (h : Happening) → Waits k past → caller_of k past ≡ Some n → first_reply k (entries_along (units_at h)) ≡ None → ends h ≡ false → gives_up k h ≡ false → answer_at n h ≡ None → Waits k (h ∷ past)
still k n past h w made none on kept silent =
    let number : w.number ≡ n = (let caller = w.caller in cc) in
    record {
      number = n;
      caller = caller_of-kept k past h n made;
      opened = open-kept n past h silent (subst (λ l. is_open l past ≡ true) number w.opened);
      none = reply_to-none k past h w.none none;
      going_on = λ i. on i || w.going_on i;
      kept = λ i. (kept i && is_some (caller_of k past)) || w.kept i;
    }

-- what doesn't end it leaves it waiting
pub waits_on : (k n : ℕ) (past : History) (h : Happening) → Waits k past → caller_of k past ≡ Some n → ending_at k n h ≡ None → Waits k (h ∷ past)
waits_on k n past (came o u) w made none =
    still k n past (came o u) w made (ap (first_reply k) (append-nil (entries_in u)) ∙ no_reply (first_reply k (entries_in u)) none) refl refl refl
waits_on k n past (called m o) w made none = still k n past (called m o) w made refl refl refl refl
waits_on k n past (called_all m os) w made none = still k n past (called_all m os) w made refl refl refl refl
waits_on k n past (noticed o) w made none = still k n past (noticed o) w made refl refl refl refl
waits_on k n past (withdrew by j) w made none = still k n past (withdrew by j) w made refl refl (none_of (ends_wait by && (j == k)) given_up none) refl
waits_on k n past (answered m a) w made none =
    still k n past (answered m a) w made refl refl refl (ap (λ b. cond b (Some a) None) (none_of (m == n) caller_closed none))
waits_on k n past (ended close) w made none = absurd (cc)

-- ---- what makes it

pub record IsNew (k n : ℕ) (past : History) : Type 0 where
  pub later : key_count past < k
  pub opened : is_open n past ≡ true
  pub going_on : is_over past ≡ false

first_passed : (b : Bool) (why : Refused) (tests : List (Bool × Refused)) → first_of ((not b, why) ∷ tests) ≡ None → (b ≡ true) × (first_of tests ≡ None)
first_passed true why tests h = (refl, h)
first_passed false why tests h = absurd (cc)

new_for : (k n m count : ℕ) (past : History) → key_count past < k → n ≡ m → call_refusal past m count ≡ None → IsNew k n past
new_for k n m count past later is taken =
    let rest : List (Bool × Refused) = (count == 0, Empty) ∷ (nat_lt most_keys (key_count past + count), Full) ∷ [] in
    let opened = first_passed (is_open m past) NotOpen ((is_over past, Over) ∷ rest) taken in
    record {
      later = later;
      opened = subst (λ l. is_open l past ≡ true) (sym is) opened.0;
      going_on = passed (is_over past) Over rest opened.1;
    }

of_all : (m : ℕ) (os : List Outgoing) (i n : ℕ) → slice_get (map (λ (o : Outgoing). m) os) i ≡ Some n → n ≡ m
of_all m [] i n h = absurd (cc)
of_all m (o ∷ os) zero n h = cc
of_all m (o ∷ os) (suc i) n h = of_all m os i n h

of_one : (m i n : ℕ) → slice_get (m ∷ []) i ≡ Some n → n ≡ m
of_one m zero n h = cc
of_one m (suc i) n h = absurd (cc)

behind : {X : Type 0} (xs ys : List X) (i : ℕ) (x : X) → length xs ≤ i → slice_get (xs ++ ys) i ≡ Some x → slice_get ys (i - length xs) ≡ Some x
behind xs ys i x past h =
    let at : i ≡ length xs + (i - length xs) = omega arith in
    sym (slice_get-beyond xs ys (i - length xs)) ∙ ap (slice_get (xs ++ ys)) (sym at) ∙ h

nothing_there : (i n : ℕ) → slice_get [] i ≡ Some n → ⊥
nothing_there i n h = cc

-- a request that is new was made for a call that is open, while the input went on
pub new_call : (cancels : Option Cancels) (k n : ℕ) (past : History) (h : Happening) → IsLawful cancels (h ∷ past) → caller_of k past ≡ None → caller_of k (h ∷ past) ≡ Some n → IsNew k n past
new_call cancels zero n past h lawful none made = absurd (cc)
new_call cancels (suc k) n past h lawful none made =
    let past_all = slice_get-past (callers past) k none in
    from h lawful (let later : key_count past < suc k = omega (arith, past_all) in later) (behind (callers past) (callers_at h) k n past_all made)
  where
    from : (h : Happening) → IsLawful cancels (h ∷ past) → key_count past < suc k → slice_get (callers_at h) (k - length (callers past)) ≡ Some n → IsNew (suc k) n past
    from (came o u) lawful later at = absurd (nothing_there (k - length (callers past)) n at)
    from (called m o) lawful later at = new_for (suc k) n m 1 past later (of_one m (k - length (callers past)) n at) lawful.0
    from (called_all m os) lawful later at = new_for (suc k) n m (length os) past later (of_all m os (k - length (callers past)) n at) lawful.0
    from (noticed o) lawful later at = absurd (nothing_there (k - length (callers past)) n at)
    from (withdrew by j) lawful later at = absurd (nothing_there (k - length (callers past)) n at)
    from (answered m a) lawful later at = absurd (nothing_there (k - length (callers past)) n at)
    from (ended close) lawful later at = absurd (nothing_there (k - length (callers past)) n at)

-- what comes was taken, so the input goes on
pub came_before_end : (cancels : Option Cancels) (past : History) (o : Option Origin) (u : Unit) → refusal cancels past (came o u) ≡ None → is_over past ≡ false
came_before_end cancels past o u taken = passed (is_over past) Over [] taken
