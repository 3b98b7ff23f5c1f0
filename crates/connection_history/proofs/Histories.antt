-- A history, after one thing more happened.
use Rattle.std.proofs.Common.{◌≡◌, ℕ, zero, suc, ◌+◌, ◌<◌, ◌≤◌, List, [], ◌∷◌, ◌++◌, length, Option, Some, None, Bool, true, false, cond, ◌&&◌, not, refl, sym, ap, ◌∙◌, append_assoc, append-nil, arith}
use Rattle.std.proofs.lemmas.Option.{slice_get_within}
use Rattle.std.specs.Prelude.{slice_get, is_some}
use Rattle.std.specs.Option.{is_none, option_map_or}
use Rattle.connection_messages.specs.declared.answer.Answer.{Answer}
use Rattle.connection_messages.specs.declared.call.Call.{Call as Came}
use Rattle.connection_messages.specs.declared.entry.Entry.{Entry}
use Rattle.connection_messages.specs.declared.reply.Reply.{Reply}
use Rattle.connection_messages.specs.declared.unit.Unit.{Unit}
use Rattle.connection_messages.specs.declared.unit.Unit.TheVariants.{Batch}
use Rattle.connection_history.specs.Stream.{entries_in, entries_along, call_in, calls_in, call_numbered, first_reply}
use Rattle.connection_history.specs.Events.{call_count}
use Rattle.connection_history.specs.History.{Happening, came, History, or_else, units_of, units_at, stream, is_over, answer_at, answer_to, is_open, callers, callers_at, key_count, caller_of, reply_at, reply_to, is_given_up, is_waiting, Origin}
use Rattle.connection_history.proofs.Streams.{entries_along-append, length-calls_in-append, slice_get-kept, call_numbered-kept, first_reply-append}
use Rattle.connection_history.proofs.Tests.{and-left, and-right, not-true, is_none-none, is_some-some, or_else-none, or_else_assoc}

-- ---- the stream

-- what happens adds its entries to the stream
pub stream-more : (past : History) (h : Happening) → stream (h ∷ past) ≡ stream past ++ entries_along (units_at h)
stream-more past h = entries_along-append (units_of past) (units_at h)

-- a unit adds its entries
pub stream-came : (past : History) (from : Option Origin) (u : Unit) → stream (came from u ∷ past) ≡ stream past ++ entries_in u
stream-came past from u = stream-more past (came from u) ∙ ap (λ es. stream past ++ es) (append-nil (entries_in u))

-- one entry more in an array that comes
pub stream-entry : (past : History) (front : List Entry) (e : Entry) → stream (came None (Batch (front ++ e ∷ [])) ∷ past) ≡ stream (came None (Batch front) ∷ past) ++ e ∷ []
stream-entry past front e =
    stream-came past None (Batch (front ++ e ∷ [])) ∙ sym (append_assoc (stream past) front (e ∷ [])) ∙ ap (λ es. es ++ e ∷ []) (sym (stream-came past None (Batch front)))

-- what happens adds its calls
pub call_count-more : (past : History) (h : Happening) → call_count (h ∷ past) ≡ call_count past + length (calls_in (entries_along (units_at h)))
call_count-more past h = ap (λ es. length (calls_in es)) (stream-more past h) ∙ length-calls_in-append (stream past) (entries_along (units_at h))

-- one entry more in an array that comes
pub call_count-entry : (past : History) (front : List Entry) (e : Entry) → call_count (came None (Batch (front ++ e ∷ [])) ∷ past) ≡ call_count (came None (Batch front) ∷ past) + length (call_in e)
call_count-entry past front e =
    ap (λ es. length (calls_in es)) (stream-entry past front e)
    ∙ length-calls_in-append (stream (came None (Batch front) ∷ past)) (e ∷ [])
    ∙ ap (λ cs. call_count (came None (Batch front) ∷ past) + length cs) (append-nil (call_in e))

-- a call that came stays
pub call_numbered-more : (n : ℕ) (past : History) (h : Happening) (c : Came) → call_numbered n (stream past) ≡ Some c → call_numbered n (stream (h ∷ past)) ≡ Some c
call_numbered-more n past h c known = ap (call_numbered n) (stream-more past h) ∙ call_numbered-kept n (stream past) (entries_along (units_at h)) c known

-- ---- answers

-- what comes answers nothing
pub answer_to-came : (n : ℕ) (past : History) (from : Option Origin) (u : Unit) → answer_to n (came from u ∷ past) ≡ answer_to n past
answer_to-came n past from u = or_else-none (answer_to n past)

-- an answer stays
pub answer_to-kept : (n : ℕ) (past : History) (h : Happening) (a : Option Answer) → answer_to n past ≡ Some a → answer_to n (h ∷ past) ≡ Some a
answer_to-kept n past h a known = ap (λ o. or_else o (answer_at n h)) known

-- ---- open calls

-- an open call has come
pub open_known : (n : ℕ) (history : History) → is_open (suc n) history ≡ true → (c : Came) × (call_numbered (suc n) (stream history) ≡ Some c)
open_known n history h = is_some-some (call_numbered (suc n) (stream history)) (and-left _ (is_none (answer_to (suc n) history)) h)

-- an open call isn't answered
pub open_unanswered : (n : ℕ) (history : History) → is_open (suc n) history ≡ true → answer_to (suc n) history ≡ None
open_unanswered n history h = is_none-none (answer_to (suc n) history) (and-right (is_some (call_numbered (suc n) (stream history))) _ h)

-- a call that has come and isn't answered is open
pub open-from : (n : ℕ) (history : History) (c : Came) → call_numbered n (stream history) ≡ Some c → answer_to n history ≡ None → is_open n history ≡ true
open-from zero history c known none = refl
open-from (suc n) history c known none = λ i. is_some (known i) && is_none (none i)

-- what comes closes no call
pub open-came : (n : ℕ) (past : History) (from : Option Origin) (u : Unit) → is_open n past ≡ true → is_open n (came from u ∷ past) ≡ true
open-came zero past from u h = refl
open-came (suc n) past from u h =
    let known = open_known n past h in
    open-from (suc n) (came from u ∷ past) known.0 (call_numbered-more (suc n) past (came from u) known.0 known.1) (answer_to-came (suc n) past from u ∙ open_unanswered n past h)

-- nor does one entry more in an array that comes
pub open-entry : (n : ℕ) (past : History) (front : List Entry) (e : Entry) → is_open n (came None (Batch front) ∷ past) ≡ true → is_open n (came None (Batch (front ++ e ∷ [])) ∷ past) ≡ true
open-entry zero past front e h = refl
open-entry (suc n) past front e h =
    let known = open_known n (came None (Batch front) ∷ past) h in
    open-from (suc n) (came None (Batch (front ++ e ∷ [])) ∷ past) known.0
    (ap (call_numbered (suc n)) (stream-entry past front e) ∙ call_numbered-kept (suc n) (stream (came None (Batch front) ∷ past)) (e ∷ []) known.0 known.1)
    (open_unanswered n (came None (Batch front) ∷ past) h)

-- ---- calls of ours

-- a call keeps its key
pub caller_of-kept : (k : ℕ) (past : History) (h : Happening) (n : ℕ) → caller_of k past ≡ Some n → caller_of k (h ∷ past) ≡ Some n
caller_of-kept zero past h n known = known
caller_of-kept (suc k) past h n known = slice_get-kept (callers past) (callers_at h) k n known

-- what comes makes no call of ours
pub caller_of-came : (k : ℕ) (past : History) (from : Option Origin) (u : Unit) → caller_of k (came from u ∷ past) ≡ caller_of k past
caller_of-came zero past from u = refl
caller_of-came (suc k) past from u = ap (λ ns. slice_get ns k) (append-nil (callers past))

-- a call of ours has one of the keys
pub caller_of-within : (k : ℕ) (history : History) (n : ℕ) → caller_of k history ≡ Some n → (0 < k) × (k ≤ key_count history)
caller_of-within zero history n h = absurd (cc)
caller_of-within (suc k) history n h = (omega arith, omega (arith, slice_get_within (callers history) k n h))

-- ---- replies

-- a reply stays
pub reply_to-kept : (k : ℕ) (past : History) (h : Happening) (r : Reply) → reply_to k past ≡ Some r → reply_to k (h ∷ past) ≡ Some r
reply_to-kept k past h r known = ap (λ o. or_else o (reply_at k past h)) known

-- a unit brings the reply to a call that was made and has none
pub reply_to-came : (k : ℕ) (past : History) (from : Option Origin) (u : Unit)
    → reply_to k (came from u ∷ past) ≡ or_else (reply_to k past) (cond (is_some (caller_of k past)) (first_reply k (entries_in u)) None)
reply_to-came k past from u = ap (λ es. or_else (reply_to k past) (cond (is_some (caller_of k past)) (first_reply k es) None)) (append-nil (entries_in u))

shared : {A : Type 0} (b : Bool) (o p q : Option A) → or_else o (cond b (or_else p q) None) ≡ or_else (or_else o (cond b p None)) (cond b q None)
shared true o p q = sym (or_else_assoc o p q)
shared false o p q = sym (or_else_assoc o None None)

-- more entries in an array that comes
pub reply_to-entries : (k : ℕ) (past : History) (front more : List Entry)
    → reply_to k (came None (Batch (front ++ more)) ∷ past) ≡ or_else (reply_to k (came None (Batch front) ∷ past)) (cond (is_some (caller_of k past)) (first_reply k more) None)
reply_to-entries k past front more =
    reply_to-came k past None (Batch (front ++ more))
    ∙ ap (λ o. or_else (reply_to k past) (cond (is_some (caller_of k past)) o None)) (first_reply-append k front more)
    ∙ shared (is_some (caller_of k past)) (reply_to k past) (first_reply k front) (first_reply k more)
    ∙ ap (λ o. or_else o (cond (is_some (caller_of k past)) (first_reply k more) None)) (sym (reply_to-came k past None (Batch front)))

-- ---- calls that wait

-- what it is that a call waits
pub record Waits (k : ℕ) (history : History) : Type 0 where
  pub number : ℕ
  pub caller : caller_of k history ≡ Some number
  pub opened : is_open number history ≡ true
  pub none : reply_to k history ≡ None
  pub going_on : is_over history ≡ false
  pub kept : is_given_up k history ≡ false

waits_for : (k : ℕ) (history : History) (o : Option ℕ) → caller_of k history ≡ o
    → (option_map_or (λ n. is_open n history) o false && is_none (reply_to k history) && not (is_over history) && not (is_given_up k history)) ≡ true → Waits k history
waits_for k history None is h = absurd (cc)
waits_for k history (Some n) is h =
    let three = and-left (is_open n history && is_none (reply_to k history) && not (is_over history)) (not (is_given_up k history)) h in
    let two = and-left (is_open n history && is_none (reply_to k history)) (not (is_over history)) three in
    record {
      number = n;
      caller = is;
      opened = and-left (is_open n history) (is_none (reply_to k history)) two;
      none = is_none-none (reply_to k history) (and-right (is_open n history) (is_none (reply_to k history)) two);
      going_on = not-true (is_over history) (and-right (is_open n history && is_none (reply_to k history)) (not (is_over history)) three);
      kept = not-true (is_given_up k history) (and-right (is_open n history && is_none (reply_to k history) && not (is_over history)) (not (is_given_up k history)) h);
    }

-- a call that waits has each part of that
pub waits : (k : ℕ) (history : History) → is_waiting k history ≡ true → Waits k history
waits k history h = waits_for k history (caller_of k history) refl h

-- and each part makes it wait
pub waiting-from : (k : ℕ) (history : History) → Waits k history → is_waiting k history ≡ true
waiting-from k history w =
    ap (λ o. option_map_or (λ n. is_open n history) o false && is_none (reply_to k history) && not (is_over history) && not (is_given_up k history)) w.caller
    ∙ (λ i. w.opened i && is_none (w.none i) && not (w.going_on i) && not (w.kept i))
