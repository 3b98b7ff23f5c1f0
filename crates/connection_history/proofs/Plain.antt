-- A history without the origins of its contents: broken input isn't told, and all else is as it was.
use Rattle.std.proofs.Common.{◌≡◌, ℕ, zero, suc, ◌+◌, ◌==◌, ◌&&◌, ◌||◌, not, nat_lt, List, [], ◌∷◌, ◌++◌, map, length, Bool, true, false, cond, Option, Some, None, refl, sym, ap, ◌∙◌, append-nil}
use Rattle.std.specs.Prelude.{filter, slice_get, is_some, option_map}
use Rattle.std.specs.Option.{is_none, option_map_or}
use Rattle.message_ids.specs.Ids.{has_id}
use Rattle.message_ids.specs.declared.id.Id.{Id}
use Rattle.connection_messages.specs.Texts.{call_text, calls_text}
use Rattle.connection_messages.specs.declared.cancels.Cancels.{Cancels}
use Rattle.connection_messages.specs.declared.cancels.Cancels.TheVariants.{Mcp}
use Rattle.connection_messages.specs.declared.entry.Entry.{Entry}
use Rattle.connection_messages.specs.declared.entry.Entry.TheVariants.{Call, Cancel, Reply, Stray, Invalid}
use Rattle.connection_messages.specs.declared.reply.Reply.{Reply as Replied}
use Rattle.connection_messages.specs.declared.unit.Unit.{Unit}
use Rattle.connection_messages.specs.declared.unit.Unit.TheVariants.{Unreadable, Single, Batch}
use Rattle.connection_history.specs.declared.broken.Broken.{Broken}
use Rattle.connection_history.specs.declared.close.Close.{Close}
use Rattle.connection_history.specs.declared.event.Event.{Event}
use Rattle.connection_history.specs.declared.event.Event.TheVariants as event
use Rattle.connection_history.specs.declared.order.Order.{Order}
use Rattle.connection_history.specs.declared.refused.Refused.TheVariants.{NotOpen, NotWaiting, Over, Empty, Full}
use Rattle.connection_history.specs.Stream.{entries_in, entries_along, call_in, calls_in, call_numbered, request_id, first_reply, is_cancelled}
use Rattle.connection_history.specs.History.{Happening, came, called, called_all, noticed, withdrew, answered, ended, History, or_else, numbers_to, units_at, units_of, stream, ends, is_over, answer_at, answer_to, is_open, callers_at, callers, key_count, caller_of, reply_to, gives_up, is_given_up, is_waiting, waiting, withdraws, is_withdrawn}
use Rattle.connection_history.specs.Events.{reached, events_of_entry, events_along, events_at, events_of, broken_in}
use Rattle.connection_history.specs.Answers.{both, texts_of, call_texts, entry_texts, texts_along, unit_texts, due_from, dues_along, dues}
use Rattle.connection_history.specs.Items.{said, said_at, out, newly_out, items_at, items_of}
use Rattle.connection_history.specs.Refusals.{first_of, most_keys, call_refusal, has_cancels, is_left, refusal}
use Rattle.connection_history.specs.Told.{broken_told, without_broken, broken_with, broken_of, plain_at, plain}

-- ---- what stands after it is the same

units_at-plain : (h : Happening) → units_at (plain_at h) ≡ units_at h
units_at-plain (came from u) = refl
units_at-plain (called n o) = refl
units_at-plain (called_all n os) = refl
units_at-plain (noticed o) = refl
units_at-plain (withdrew by k) = refl
units_at-plain (answered n a) = refl
units_at-plain (ended close) = refl

units-plain : (history : History) → units_of (plain history) ≡ units_of history
units-plain [] = refl
units-plain (h ∷ past) = λ i. units-plain past i ++ units_at-plain h i

stream-plain : (history : History) → stream (plain history) ≡ stream history
stream-plain history = ap entries_along (units-plain history)

ends-plain : (h : Happening) → ends (plain_at h) ≡ ends h
ends-plain (came from u) = refl
ends-plain (called n o) = refl
ends-plain (called_all n os) = refl
ends-plain (noticed o) = refl
ends-plain (withdrew by k) = refl
ends-plain (answered n a) = refl
ends-plain (ended close) = refl

over-plain : (history : History) → is_over (plain history) ≡ is_over history
over-plain [] = refl
over-plain (h ∷ past) = λ i. ends-plain h i || over-plain past i

answer_at-plain : (n : ℕ) (h : Happening) → answer_at n (plain_at h) ≡ answer_at n h
answer_at-plain n (came from u) = refl
answer_at-plain n (called m o) = refl
answer_at-plain n (called_all m os) = refl
answer_at-plain n (noticed o) = refl
answer_at-plain n (withdrew by k) = refl
answer_at-plain n (answered m a) = refl
answer_at-plain n (ended close) = refl

answer-plain : (n : ℕ) (history : History) → answer_to n (plain history) ≡ answer_to n history
answer-plain n [] = refl
answer-plain n (h ∷ past) = λ i. or_else (answer-plain n past i) (answer_at-plain n h i)

open-plain : (n : ℕ) (history : History) → is_open n (plain history) ≡ is_open n history
open-plain zero history = refl
open-plain (suc n) history = λ i. is_some (call_numbered (suc n) (stream-plain history i)) && is_none (answer-plain (suc n) history i)

callers_at-plain : (h : Happening) → callers_at (plain_at h) ≡ callers_at h
callers_at-plain (came from u) = refl
callers_at-plain (called n o) = refl
callers_at-plain (called_all n os) = refl
callers_at-plain (noticed o) = refl
callers_at-plain (withdrew by k) = refl
callers_at-plain (answered n a) = refl
callers_at-plain (ended close) = refl

callers-plain : (history : History) → callers (plain history) ≡ callers history
callers-plain [] = refl
callers-plain (h ∷ past) = λ i. callers-plain past i ++ callers_at-plain h i

key_count-plain : (history : History) → key_count (plain history) ≡ key_count history
key_count-plain history = ap length (callers-plain history)

caller_of-plain : (k : ℕ) (history : History) → caller_of k (plain history) ≡ caller_of k history
caller_of-plain zero history = refl
caller_of-plain (suc k) history = ap (λ ns. slice_get ns k) (callers-plain history)

reply-plain : (k : ℕ) (history : History) → reply_to k (plain history) ≡ reply_to k history
reply-plain k [] = refl
reply-plain k (h ∷ past) =
    λ i. or_else (reply-plain k past i) (cond (is_some (caller_of-plain k past i)) (first_reply k (entries_along (units_at-plain h i))) None)

gives_up-plain : (k : ℕ) (h : Happening) → gives_up k (plain_at h) ≡ gives_up k h
gives_up-plain k (came from u) = refl
gives_up-plain k (called n o) = refl
gives_up-plain k (called_all n os) = refl
gives_up-plain k (noticed o) = refl
gives_up-plain k (withdrew by j) = refl
gives_up-plain k (answered n a) = refl
gives_up-plain k (ended close) = refl

given_up-plain : (k : ℕ) (history : History) → is_given_up k (plain history) ≡ is_given_up k history
given_up-plain k [] = refl
given_up-plain k (h ∷ past) = λ i. (gives_up-plain k h i && is_some (caller_of-plain k past i)) || given_up-plain k past i

waiting_one-plain : (k : ℕ) (history : History) → is_waiting k (plain history) ≡ is_waiting k history
waiting_one-plain k history =
    λ i. option_map_or (λ n. open-plain n history i) (caller_of-plain k history i) false
    && is_none (reply-plain k history i) && not (over-plain history i) && not (given_up-plain k history i)

waiting-plain : (history : History) → waiting (plain history) ≡ waiting history
waiting-plain history = λ i. filter (λ k. waiting_one-plain k history i) (numbers_to (key_count-plain history i))

withdraws-plain : (k : ℕ) (h : Happening) → withdraws k (plain_at h) ≡ withdraws k h
withdraws-plain k (came from u) = refl
withdraws-plain k (called n o) = refl
withdraws-plain k (called_all n os) = refl
withdraws-plain k (noticed o) = refl
withdraws-plain k (withdrew by j) = refl
withdraws-plain k (answered n a) = refl
withdraws-plain k (ended close) = refl

withdrawn-plain : (k : ℕ) (history : History) → is_withdrawn k (plain history) ≡ is_withdrawn k history
withdrawn-plain k [] = refl
withdrawn-plain k (h ∷ past) = λ i. withdraws-plain k h i || withdrawn-plain k past i

-- ---- what is refused

call_refusal-plain : (past : History) (n count : ℕ) → call_refusal (plain past) n count ≡ call_refusal past n count
call_refusal-plain past n count =
    λ i. first_of (
    (not (open-plain n past i), NotOpen) ∷ (over-plain past i, Over) ∷ (count == 0, Empty) ∷ (nat_lt most_keys (key_count-plain past i + count), Full) ∷ []
    )

-- the same is refused
pub refusal-plain : (cancels : Option Cancels) (past : History) (h : Happening) → refusal cancels (plain past) (plain_at h) ≡ refusal cancels past h
refusal-plain cancels past (came from u) = ap (λ b. first_of ((b, Over) ∷ [])) (over-plain past)
refusal-plain cancels past (called n o) = call_refusal-plain past n 1
refusal-plain cancels past (called_all n os) = call_refusal-plain past n (length os)
refusal-plain cancels past (noticed o) = refl
refusal-plain cancels past (withdrew by k) =
    λ i. first_of ((not (has_cancels by cancels && waiting_one-plain k past i && not (withdrawn-plain k past i)), NotWaiting) ∷ [])
refusal-plain cancels past (answered n a) =
    λ i. first_of (
    (n == 0 || not (open-plain n past i), NotOpen) ∷ (is_left a && not (has_cancels Mcp cancels && is_cancelled n (stream-plain past i)), Empty) ∷ []
    )
refusal-plain cancels past (ended close) = ap (λ b. first_of ((b, Over) ∷ [])) (over-plain past)

-- ---- what is told

-- of lists of events
broken_told-append : (told more : List Event) → broken_told (told ++ more) ≡ broken_told told ++ broken_told more
broken_told-append [] more = refl
broken_told-append (event.Call n c ∷ told) more = broken_told-append told more
broken_told-append (event.Cancelled n ∷ told) more = broken_told-append told more
broken_told-append (event.Replied k r ∷ told) more = broken_told-append told more
broken_told-append (event.Unanswered k ∷ told) more = broken_told-append told more
broken_told-append (event.Over close ∷ told) more = broken_told-append told more
broken_told-append (event.Broken b ∷ told) more = ap (λ l. b ∷ l) (broken_told-append told more)

broken_told-front : (bs : List Broken) (told : List Event) → broken_told (map event.Broken bs ++ told) ≡ bs ++ broken_told told
broken_told-front [] told = refl
broken_told-front (b ∷ bs) told = ap (λ l. b ∷ l) (broken_told-front bs told)

unbroken-append : (told more : List Event) → without_broken (told ++ more) ≡ without_broken told ++ without_broken more
unbroken-append [] more = refl
unbroken-append (event.Call n c ∷ told) more = ap (λ l. event.Call n c ∷ l) (unbroken-append told more)
unbroken-append (event.Cancelled n ∷ told) more = ap (λ l. event.Cancelled n ∷ l) (unbroken-append told more)
unbroken-append (event.Replied k r ∷ told) more = ap (λ l. event.Replied k r ∷ l) (unbroken-append told more)
unbroken-append (event.Unanswered k ∷ told) more = ap (λ l. event.Unanswered k ∷ l) (unbroken-append told more)
unbroken-append (event.Over close ∷ told) more = ap (λ l. event.Over close ∷ l) (unbroken-append told more)
unbroken-append (event.Broken b ∷ told) more = unbroken-append told more

unbroken-front : (bs : List Broken) (told : List Event) → without_broken (map event.Broken bs ++ told) ≡ without_broken told
unbroken-front [] told = refl
unbroken-front (b ∷ bs) told = unbroken-front bs told

-- nothing of it is broken, so all of it is there
pub record IsWhole (told : List Event) : Type 0 where
  pub none : broken_told told ≡ []
  pub all : without_broken told ≡ told

whole-append : (told more : List Event) → IsWhole told → IsWhole more → IsWhole (told ++ more)
whole-append told more first second = record {
  none = broken_told-append told more ∙ (λ i. first.none i ++ second.none i);
  all = unbroken-append told more ∙ (λ i. first.all i ++ second.all i);
}

whole-cancelled : (ns : List ℕ) → IsWhole (map event.Cancelled ns)
whole-cancelled [] = record { none = refl; all = refl }
whole-cancelled (n ∷ ns) = record { none = (whole-cancelled ns).none; all = ap (λ l. event.Cancelled n ∷ l) (whole-cancelled ns).all }

whole-ended : (ks : List ℕ) (close : Close) → IsWhole (map event.Unanswered ks ++ event.Over close ∷ [])
whole-ended [] close = record { none = refl; all = refl }
whole-ended (k ∷ ks) close = record { none = (whole-ended ks close).none; all = ap (λ l. event.Unanswered k ∷ l) (whole-ended ks close).all }

whole-reply : (b : Bool) (k : ℕ) (r : Replied) → IsWhole (cond b (event.Replied k r ∷ []) [])
whole-reply true k r = record { none = refl; all = refl }
whole-reply false k r = record { none = refl; all = refl }

whole-entry : (history : History) (e : Entry) → IsWhole (events_of_entry history e)
whole-entry history (Call c) = record { none = refl; all = refl }
whole-entry history (Cancel id) = whole-cancelled (reached id history)
whole-entry history (Reply k r) = whole-reply (is_waiting k history) k r
whole-entry history Stray = record { none = refl; all = refl }
whole-entry history Invalid = record { none = refl; all = refl }

-- entries tell nothing that is broken
pub whole-along : (past : History) (front es : List Entry) → IsWhole (events_along past front es)
whole-along past front [] = record { none = refl; all = refl }
whole-along past front (e ∷ es) =
    whole-append (events_of_entry (came None (Batch front) ∷ past) e) (events_along past (front ++ e ∷ []) es)
    (whole-entry (came None (Batch front) ∷ past) e) (whole-along past (front ++ e ∷ []) es)

reached-plain : (id : Id) (history : History) → reached id (plain history) ≡ reached id history
reached-plain id history =
    λ i. filter (λ n. has_id id (request_id n (stream-plain history i)) && open-plain n history i && not (is_cancelled n (stream-plain history i)))
    (numbers_to (length (calls_in (stream-plain history i))))

entry-plain : (history : History) (e : Entry) → events_of_entry (plain history) e ≡ events_of_entry history e
entry-plain history (Call c) = λ i. event.Call (length (calls_in (stream-plain history i)) + 1) c ∷ []
entry-plain history (Cancel id) = ap (map event.Cancelled) (reached-plain id history)
entry-plain history (Reply k r) = ap (λ b. cond b (event.Replied k r ∷ []) []) (waiting_one-plain k history)
entry-plain history Stray = refl
entry-plain history Invalid = refl

along-plain : (past : History) (front es : List Entry) → events_along (plain past) front es ≡ events_along past front es
along-plain past front [] = refl
along-plain past front (e ∷ es) = λ i. entry-plain (came None (Batch front) ∷ past) e i ++ along-plain past (front ++ e ∷ []) es i

happening-plain : (past : History) (h : Happening) → without_broken (events_at past h) ≡ events_at (plain past) (plain_at h)
happening-plain past (came from u) =
    unbroken-front (broken_in from u) (events_along past [] (entries_in u)) ∙ (whole-along past [] (entries_in u)).all ∙ sym (along-plain past [] (entries_in u))
happening-plain past (called n o) = refl
happening-plain past (called_all n os) = refl
happening-plain past (noticed o) = refl
happening-plain past (withdrew by k) = refl
happening-plain past (answered n a) = refl
happening-plain past (ended close) = (whole-ended (waiting past) close).all ∙ ap (λ ks. map event.Unanswered ks ++ event.Over close ∷ []) (sym (waiting-plain past))

-- all else is told as if it weren't
pub told-plain : (history : History) → without_broken (events_of history) ≡ events_of (plain history)
told-plain [] = refl
told-plain (h ∷ past) = unbroken-append (events_of past) (events_at past h) ∙ (λ i. told-plain past i ++ happening-plain past h i)

happening-broken : (past : History) (h : Happening) → broken_told (events_at past h) ≡ broken_with h
happening-broken past (came from u) =
    broken_told-front (broken_in from u) (events_along past [] (entries_in u))
    ∙ ap (λ l. broken_in from u ++ l) (whole-along past [] (entries_in u)).none ∙ append-nil (broken_in from u)
happening-broken past (called n o) = refl
happening-broken past (called_all n os) = refl
happening-broken past (noticed o) = refl
happening-broken past (withdrew by k) = refl
happening-broken past (answered n a) = refl
happening-broken past (ended close) = (whole-ended (waiting past) close).none

-- each broken content is told once
pub told-broken : (history : History) → broken_told (events_of history) ≡ broken_of history
told-broken [] = refl
told-broken (h ∷ past) = broken_told-append (events_of past) (events_at past h) ∙ (λ i. told-broken past i ++ happening-broken past h i)

-- ---- what is written

module _ (history : History) where
  call-plain : (n : ℕ) (id : Option Id) → call_texts (plain history) n id ≡ call_texts history n id
  call-plain n None = refl
  call-plain n (Some id) = ap (option_map (texts_of id)) (answer-plain n history)

  texts-plain : (n : ℕ) (e : Entry) → entry_texts (plain history) n e ≡ entry_texts history n e
  texts-plain n (Call c) = call-plain n c.id
  texts-plain n (Cancel id) = refl
  texts-plain n (Reply k r) = refl
  texts-plain n Stray = refl
  texts-plain n Invalid = refl

  all_texts-plain : (n : ℕ) (es : List Entry) → texts_along (plain history) n es ≡ texts_along history n es
  all_texts-plain n [] = refl
  all_texts-plain n (e ∷ es) = λ i. both (texts-plain n e i) (all_texts-plain (n + length (call_in e)) es i)

  unit-plain : (n : ℕ) (u : Unit) → unit_texts (plain history) n u ≡ unit_texts history n u
  unit-plain n Unreadable = refl
  unit-plain n (Single e) = texts-plain n e
  unit-plain n (Batch es) = all_texts-plain n es

  dues_along-plain : (n : ℕ) (us : List Unit) → dues_along (plain history) n us ≡ dues_along history n us
  dues_along-plain n [] = refl
  dues_along-plain n (u ∷ us) = λ i. due_from u (unit-plain n u i) ∷ dues_along-plain (n + length (calls_in (entries_in u))) us i

dues-plain : (history : History) → dues (plain history) ≡ dues history
dues-plain history = ap (dues_along (plain history) 1) (units-plain history) ∙ dues_along-plain history 1 (units_of history)

said-plain : (past : History) (h : Happening) → said_at (plain past) (plain_at h) ≡ said_at past h
said-plain past (came from u) = refl
said-plain past (called n o) = ap (λ k. said (call_text (k + 1) o) ∷ []) (key_count-plain past)
said-plain past (called_all n os) = ap (λ k. said (calls_text (k + 1) os) ∷ []) (key_count-plain past)
said-plain past (noticed o) = refl
said-plain past (withdrew by k) = refl
said-plain past (answered n a) = refl
said-plain past (ended close) = refl

happening-items : (order : Order) (past : History) (h : Happening) → items_at order (plain past) (plain_at h) ≡ items_at order past h
happening-items order past h =
    λ i. said-plain past h i ++ newly_out 0 (out order (dues-plain past i)) (out order (dues-plain (h ∷ past) i))

-- what is written is the same
pub written-plain : (order : Order) (history : History) → items_of order (plain history) ≡ items_of order history
written-plain order [] = refl
written-plain order (h ∷ past) = λ i. written-plain order past i ++ happening-items order past h i
