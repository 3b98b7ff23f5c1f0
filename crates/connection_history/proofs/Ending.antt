-- What is told last, and in which order.
use Rattle.std.proofs.Common.{◌≡◌, ℕ, List, [], ◌∷◌, ◌++◌, map, Bool, true, false, cond, Option, None, refl, sym, ap, subst, ◌∙◌, append-nil}
use Rattle.std.specs.Prelude.{⊤}
use Rattle.std.specs.List.Sorted.{IsStrictlyIncreasing}
use Rattle.connection_messages.specs.declared.cancels.Cancels.{Cancels}
use Rattle.connection_messages.specs.declared.entry.Entry.{Entry}
use Rattle.connection_messages.specs.declared.entry.Entry.TheVariants.{Call, Cancel, Reply, Stray, Invalid}
use Rattle.connection_messages.specs.declared.reply.Reply.{Reply as Replied}
use Rattle.connection_history.specs.declared.broken.Broken.{Broken}
use Rattle.connection_history.specs.declared.close.Close.{Close}
use Rattle.connection_history.specs.declared.event.Event.{Event}
use Rattle.connection_history.specs.declared.event.Event.TheVariants as event
use Rattle.connection_history.specs.declared.refused.Refused.TheVariants.{Over}
use Rattle.connection_history.specs.Stream.{entries_in}
use Rattle.connection_history.specs.Events.{call_count, is_reached, reached, events_of_entry, events_along, events_at, events_of, broken_in}
use Rattle.connection_history.specs.History.{Happening, came, called, called_all, noticed, withdrew, answered, ended, History, is_over, key_count, is_waiting, waiting}
use Rattle.connection_history.specs.Refusals.{first_of, IsLawful}
use Rattle.connection_history.specs.Told.{cancelled_in, unanswered_in}
use Rattle.connection_history.proofs.Along.{so_far}
use Rattle.connection_history.proofs.Numbers.{passing-rise}

-- ---- lists of events that don't tell the end

-- each of them is told before the end
abbrev IsBefore : List Event → Type 0
IsBefore [] = ⊤
IsBefore (event.Call n c ∷ told) = IsBefore told
IsBefore (event.Cancelled n ∷ told) = IsBefore told
IsBefore (event.Replied k r ∷ told) = IsBefore told
IsBefore (event.Unanswered k ∷ told) = ⊥
IsBefore (event.Over close ∷ told) = ⊥
IsBefore (event.Broken b ∷ told) = IsBefore told

before-append : (told more : List Event) → IsBefore told → IsBefore more → IsBefore (told ++ more)
before-append [] more first second = second
before-append (event.Call n c ∷ told) more first second = before-append told more first second
before-append (event.Cancelled n ∷ told) more first second = before-append told more first second
before-append (event.Replied k r ∷ told) more first second = before-append told more first second
before-append (event.Unanswered k ∷ told) more first second = absurd first
before-append (event.Over close ∷ told) more first second = absurd first
before-append (event.Broken b ∷ told) more first second = before-append told more first second

before-broken : (bs : List Broken) → IsBefore (map event.Broken bs)
before-broken [] = tt
before-broken (b ∷ bs) = before-broken bs

before-cancelled : (ns : List ℕ) → IsBefore (map event.Cancelled ns)
before-cancelled [] = tt
before-cancelled (n ∷ ns) = before-cancelled ns

before-reply : (b : Bool) (k : ℕ) (r : Replied) → IsBefore (cond b (event.Replied k r ∷ []) [])
before-reply true k r = tt
before-reply false k r = tt

before-entry : (history : History) (e : Entry) → IsBefore (events_of_entry history e)
before-entry history (Call c) = tt
before-entry history (Cancel id) = before-cancelled (reached id history)
before-entry history (Reply k r) = before-reply (is_waiting k history) k r
before-entry history Stray = tt
before-entry history Invalid = tt

before-along : (past : History) (front es : List Entry) → IsBefore (events_along past front es)
before-along past front [] = tt
before-along past front (e ∷ es) =
    before-append (events_of_entry (so_far past front) e) (events_along past (front ++ e ∷ []) es) (before-entry (so_far past front) e) (before-along past (front ++ e ∷ []) es)

-- ---- the end

-- these are all told before the end; or then the calls that wait are told, and the end, and nothing more
data Ends (told : List Event) : Type 0 where
  going_on : IsBefore told → Ends told
  at_end : (before : List Event) (past : History) (close : Close) → IsBefore before → told ≡ before ++ (map event.Unanswered (waiting past) ++ event.Over close ∷ []) → Ends told

over_passed : (over : Bool) → first_of ((over, Over) ∷ []) ≡ None → over ≡ false
over_passed true h = absurd (cc)
over_passed false h = refl

-- what is told stays as it is where nothing more is told
ends-same : (told : List Event) → Ends told → Ends (told ++ [])
ends-same told it = subst Ends (sym (append-nil told)) it

record Told (history : History) : Type 0 where
  all : Ends (events_of history)
  before : is_over history ≡ false → IsBefore (events_of history)

told-silent : (past : History) (h : Happening) → events_at past h ≡ [] → is_over (h ∷ past) ≡ is_over past → Told past → Told (h ∷ past)
told-silent past h none same it = record {
  all = subst (λ l. Ends (events_of past ++ l)) (sym none) (ends-same (events_of past) it.all);
  before = λ going. subst (λ l. IsBefore (events_of past ++ l)) (sym none) (before-append (events_of past) [] (it.before (sym same ∙ going)) tt);
}

told-all : (conversation : Option Cancels) (history : History) → IsLawful conversation history → Told history
told-all conversation [] lawful = record { all = going_on tt; before = λ going. tt }
told-all conversation (came from u ∷ past) lawful =
    let earlier = told-all conversation past lawful.1 in
    let first = earlier.before (over_passed (is_over past) lawful.0) in
    let now = before-append (events_of past) (events_at past (came from u)) first
    (before-append (map event.Broken (broken_in from u)) (events_along past [] (entries_in u)) (before-broken (broken_in from u)) (before-along past [] (entries_in u))) in
    record { all = going_on now; before = λ going. now }
told-all conversation (called n o ∷ past) lawful = told-silent past (called n o) refl refl (told-all conversation past lawful.1)
told-all conversation (called_all n os ∷ past) lawful = told-silent past (called_all n os) refl refl (told-all conversation past lawful.1)
told-all conversation (noticed o ∷ past) lawful = told-silent past (noticed o) refl refl (told-all conversation past lawful.1)
told-all conversation (withdrew by k ∷ past) lawful = told-silent past (withdrew by k) refl refl (told-all conversation past lawful.1)
told-all conversation (answered n a ∷ past) lawful = told-silent past (answered n a) refl refl (told-all conversation past lawful.1)
told-all conversation (ended close ∷ past) lawful =
    let earlier = told-all conversation past lawful.1 in
    record {
      all = at_end (events_of past) past close (earlier.before (over_passed (is_over past) lawful.0)) refl;
      before = λ going. absurd (cc);
    }

-- ---- nothing after it

before_over : (front : List Event) (close : Close) (rest : List Event) → IsBefore (front ++ event.Over close ∷ rest) → ⊥
before_over [] close rest it = it
before_over (event.Call n c ∷ front) close rest it = before_over front close rest it
before_over (event.Cancelled n ∷ front) close rest it = before_over front close rest it
before_over (event.Replied k r ∷ front) close rest it = before_over front close rest it
before_over (event.Unanswered k ∷ front) close rest it = it
before_over (event.Over c ∷ front) close rest it = it
before_over (event.Broken b ∷ front) close rest it = before_over front close rest it

only_over : (ks : List ℕ) (end : Close) (front : List Event) (close : Close) (rest : List Event) → map event.Unanswered ks ++ event.Over end ∷ [] ≡ front ++ event.Over close ∷ rest → rest ≡ []
only_over [] end [] close rest is = let none : [] ≡ rest = cc in sym none
only_over [] end (e ∷ []) close rest is = absurd (cc)
only_over [] end (e ∷ f ∷ front) close rest is = absurd (cc)
only_over (k ∷ ks) end [] close rest is = absurd (cc)
only_over (k ∷ ks) end (e ∷ front) close rest is =
    let others : map event.Unanswered ks ++ event.Over end ∷ [] ≡ front ++ event.Over close ∷ rest = cc in only_over ks end front close rest others

over_in : (before : List Event) (ks : List ℕ) (end : Close) (front : List Event) (close : Close) (rest : List Event) → IsBefore before
    → before ++ (map event.Unanswered ks ++ event.Over end ∷ []) ≡ front ++ event.Over close ∷ rest → rest ≡ []
over_in [] ks end front close rest it is = only_over ks end front close rest is
over_in (event.Over c ∷ before) ks end front close rest it is = absurd it
over_in (event.Unanswered k ∷ before) ks end front close rest it is = absurd it
over_in (event.Call n c ∷ before) ks end [] close rest it is = absurd (cc)
over_in (event.Call n c ∷ before) ks end (e ∷ front) close rest it is =
    let others : before ++ (map event.Unanswered ks ++ event.Over end ∷ []) ≡ front ++ event.Over close ∷ rest = cc in over_in before ks end front close rest it others
over_in (event.Cancelled n ∷ before) ks end [] close rest it is = absurd (cc)
over_in (event.Cancelled n ∷ before) ks end (e ∷ front) close rest it is =
    let others : before ++ (map event.Unanswered ks ++ event.Over end ∷ []) ≡ front ++ event.Over close ∷ rest = cc in over_in before ks end front close rest it others
over_in (event.Replied k r ∷ before) ks end [] close rest it is = absurd (cc)
over_in (event.Replied k r ∷ before) ks end (e ∷ front) close rest it is =
    let others : before ++ (map event.Unanswered ks ++ event.Over end ∷ []) ≡ front ++ event.Over close ∷ rest = cc in over_in before ks end front close rest it others
over_in (event.Broken b ∷ before) ks end [] close rest it is = absurd (cc)
over_in (event.Broken b ∷ before) ks end (e ∷ front) close rest it is =
    let others : before ++ (map event.Unanswered ks ++ event.Over end ∷ []) ≡ front ++ event.Over close ∷ rest = cc in over_in before ks end front close rest it others

over_last-in : (told front rest : List Event) (close : Close) → Ends told → told ≡ front ++ event.Over close ∷ rest → rest ≡ []
over_last-in told front rest close (going_on it) is = absurd (before_over front close rest (subst IsBefore is it))
over_last-in told front rest close (at_end before past end it whole) is = over_in before (waiting past) end front close rest it (sym whole ∙ is)

-- nothing is told after the end
pub over_last : (conversation : Option Cancels) (history : History) (front rest : List Event) (close : Close) → IsLawful conversation history
    → events_of history ≡ front ++ event.Over close ∷ rest → rest ≡ []
over_last conversation history front rest close lawful is = over_last-in (events_of history) front rest close (told-all conversation history lawful).all is

-- ---- the calls that are told to have no reply go up

none_unanswered-before : (told more : List Event) → IsBefore told → unanswered_in (told ++ more) ≡ unanswered_in more
none_unanswered-before [] more it = refl
none_unanswered-before (event.Call n c ∷ told) more it = none_unanswered-before told more it
none_unanswered-before (event.Cancelled n ∷ told) more it = none_unanswered-before told more it
none_unanswered-before (event.Replied k r ∷ told) more it = none_unanswered-before told more it
none_unanswered-before (event.Unanswered k ∷ told) more it = absurd it
none_unanswered-before (event.Over close ∷ told) more it = absurd it
none_unanswered-before (event.Broken b ∷ told) more it = none_unanswered-before told more it

unanswered-numbers : (ks : List ℕ) (close : Close) → unanswered_in (map event.Unanswered ks ++ event.Over close ∷ []) ≡ ks
unanswered-numbers [] close = refl
unanswered-numbers (k ∷ ks) close = ap (λ l. k ∷ l) (unanswered-numbers ks close)

unanswered_rise-in : (told : List Event) → Ends told → IsStrictlyIncreasing (unanswered_in told)
unanswered_rise-in told (going_on it) =
    subst (λ l. IsStrictlyIncreasing l) (sym (ap unanswered_in (sym (append-nil told)) ∙ none_unanswered-before told [] it)) (passing-rise (λ k. false) 0)
unanswered_rise-in told (at_end before past close it whole) =
    subst (λ l. IsStrictlyIncreasing l)
    (sym (ap unanswered_in whole ∙ none_unanswered-before before (map event.Unanswered (waiting past) ++ event.Over close ∷ []) it ∙ unanswered-numbers (waiting past) close))
    (passing-rise (λ k. is_waiting k past) (key_count past))

pub unanswered_rise : (conversation : Option Cancels) (history : History) → IsLawful conversation history → IsStrictlyIncreasing (unanswered_in (events_of history))
unanswered_rise conversation history lawful = unanswered_rise-in (events_of history) (told-all conversation history lawful).all

-- ---- the requests that one cancel reaches go up

cancelled-numbers : (ns : List ℕ) → cancelled_in (map event.Cancelled ns) ≡ ns
cancelled-numbers [] = refl
cancelled-numbers (n ∷ ns) = ap (λ l. n ∷ l) (cancelled-numbers ns)

none_cancelled : (b : Bool) (k : ℕ) (r : Replied) → cancelled_in (cond b (event.Replied k r ∷ []) []) ≡ []
none_cancelled true k r = refl
none_cancelled false k r = refl

pub cancelled_rise : (history : History) (e : Entry) → IsStrictlyIncreasing (cancelled_in (events_of_entry history e))
cancelled_rise history (Call c) = passing-rise (λ k. false) 0
cancelled_rise history (Cancel id) =
    subst (λ l. IsStrictlyIncreasing l) (sym (cancelled-numbers (reached id history))) (passing-rise (is_reached id history) (call_count history))
cancelled_rise history (Reply k r) = subst (λ l. IsStrictlyIncreasing l) (sym (none_cancelled (is_waiting k history) k r)) (passing-rise (λ n. false) 0)
cancelled_rise history Stray = passing-rise (λ k. false) 0
cancelled_rise history Invalid = passing-rise (λ k. false) 0
