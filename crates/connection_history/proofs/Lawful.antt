-- Where nothing was refused: each call of ours was made on behalf of a call that had come, or of the host itself.
use Rattle.std.proofs.Common.{◌≡◌, ℕ, zero, suc, ◌+◌, ◌<◌, ◌==◌, ◌&&◌, ◌||◌, length, nat_lt, List, [], ◌∷◌, ◌++◌, map, Bool, true, false, not, Option, Some, None, refl, sym, subst, ◌∙◌, arith}
use Rattle.std.specs.Prelude.{⊤, slice_get}
use Rattle.std.proofs.lemmas.Option.{cond_some}
use Rattle.connection_messages.specs.declared.answer.Answer.{Answer}
use Rattle.connection_messages.specs.declared.call.Call.{Call as Came}
use Rattle.connection_messages.specs.declared.outgoing.Outgoing.{Outgoing}
use Rattle.connection_messages.specs.declared.unit.Unit.{Unit}
use Rattle.connection_history.specs.declared.refused.Refused.{Refused}
use Rattle.connection_history.specs.declared.refused.Refused.TheVariants.{NotOpen, Over, Empty, Full}
use Rattle.connection_history.specs.Stream.{call_numbered}
use Rattle.connection_history.specs.History.{Happening, came, called, called_all, noticed, withdrew, answered, ended, History, or_else, stream, is_over, answer_at, answer_to, is_open, key_count, callers, callers_at, caller_of, Origin}
use Rattle.connection_history.specs.Refusals.{first_of, most_keys, call_refusal, is_left, may_be_left, refusal, IsLawful}
use Rattle.connection_history.specs.Events.{call_count}
use Rattle.connection_history.proofs.Streams.{call_numbered-within}
use Rattle.connection_history.proofs.Tests.{same}
use Rattle.connection_history.proofs.Histories.{call_numbered-more, answer_to-came, open_known, open_unanswered, open-from}
use Rattle.connection_messages.specs.declared.cancels.Cancels.{Cancels}

-- ---- calls that have come

-- It is the host itself, or a call that has come.
abbrev pub IsKnown : ℕ → History → Type 0
IsKnown zero history = ⊤
IsKnown (suc n) history = (c : Came) × (call_numbered (suc n) (stream history) ≡ Some c)

abbrev AreKnown : List ℕ → History → Type 0
AreKnown [] history = ⊤
AreKnown (n ∷ ns) history = IsKnown n history × AreKnown ns history

known-more : (n : ℕ) (past : History) (h : Happening) → IsKnown n past → IsKnown n (h ∷ past)
known-more zero past h known = tt
known-more (suc n) past h known = (known.0, call_numbered-more (suc n) past h known.0 known.1)

all_known-more : (ns : List ℕ) (past : History) (h : Happening) → AreKnown ns past → AreKnown ns (h ∷ past)
all_known-more [] past h known = tt
all_known-more (n ∷ ns) past h known = (known-more n past h known.0, all_known-more ns past h known.1)

all_known-append : (ns more : List ℕ) (history : History) → AreKnown ns history → AreKnown more history → AreKnown (ns ++ more) history
all_known-append [] more history h k = k
all_known-append (n ∷ ns) more history h k = (h.0, all_known-append ns more history h.1 k)

all_known-at : (ns : List ℕ) (i n : ℕ) (history : History) → AreKnown ns history → slice_get ns i ≡ Some n → IsKnown n history
all_known-at [] i n history h at = absurd (cc)
all_known-at (m ∷ ns) zero n history h at = let same : m ≡ n = cc in subst (λ l. IsKnown l history) same h.0
all_known-at (m ∷ ns) (suc i) n history h at = all_known-at ns i n history h.1 at

all_known-same : (n : ℕ) (os : List Outgoing) (history : History) → IsKnown n history → AreKnown (map (λ o. n) os) history
all_known-same n [] history h = tt
all_known-same n (o ∷ os) history h = (h, all_known-same n os history h)

-- an open call has come
known-open : (n : ℕ) (history : History) → is_open n history ≡ true → IsKnown n history
known-open zero history h = tt
known-open (suc n) history h = open_known n history h

-- ---- nothing was refused

first_passed : (b : Bool) (why : Refused) (tests : List (Bool × Refused)) → first_of ((not b, why) ∷ tests) ≡ None → b ≡ true
first_passed true why tests h = refl
first_passed false why tests h = absurd (cc)

neither_test : (zero_test opened : Bool) (tests : List (Bool × Refused)) → first_of ((zero_test || not opened, NotOpen) ∷ tests) ≡ None → opened ≡ true
neither_test true opened tests h = absurd (cc)
neither_test false true tests h = refl
neither_test false false tests h = absurd (cc)

-- a call that wasn't refused was made for an open call
made_open : (past : History) (n count : ℕ) → call_refusal past n count ≡ None → is_open n past ≡ true
made_open past n count h =
    first_passed (is_open n past) NotOpen ((is_over past, Over) ∷ (count == 0, Empty) ∷ (nat_lt most_keys (key_count past + count), Full) ∷ []) h

-- nor was an answer refused that was given to an open call
answered_open : (cancels : Option Cancels) (past : History) (m : ℕ) (a : Option Answer) → refusal cancels past (answered m a) ≡ None → is_open m past ≡ true
answered_open cancels past m a h = neither_test (m == 0) (is_open m past) ((is_left a && not (may_be_left cancels m past), Empty) ∷ []) h

made_known : (cancels : Option Cancels) (past : History) (h : Happening) → IsLawful cancels (h ∷ past) → AreKnown (callers_at h) past
made_known cancels past (came from u) lawful = tt
made_known cancels past (called n o) lawful = (known-open n past (made_open past n 1 lawful.0), tt)
made_known cancels past (called_all n os) lawful = all_known-same n os past (known-open n past (made_open past n (length os) lawful.0))
made_known cancels past (noticed o) lawful = tt
made_known cancels past (withdrew by k) lawful = tt
made_known cancels past (answered n a) lawful = tt
made_known cancels past (ended close) lawful = tt

callers-known : (cancels : Option Cancels) (history : History) → IsLawful cancels history → AreKnown (callers history) history
callers-known cancels [] lawful = tt
callers-known cancels (h ∷ past) lawful =
    all_known-more (callers past ++ callers_at h) past h (all_known-append (callers past) (callers_at h) past (callers-known cancels past lawful.1) (made_known cancels past h lawful))

-- a call of ours was made on behalf of a call that had come
pub caller_known : (cancels : Option Cancels) (k : ℕ) (history : History) (n : ℕ) → IsLawful cancels history → caller_of k history ≡ Some n → IsKnown n history
caller_known cancels zero history n lawful h = absurd (cc)
caller_known cancels (suc k) history n lawful h = all_known-at (callers history) k n history (callers-known cancels history lawful) h

-- a call that had come and is open once more has come was open before
pub open_before : (n : ℕ) (past : History) (from : Option Origin) (u : Unit) → IsKnown n past → is_open n (came from u ∷ past) ≡ true → is_open n past ≡ true
open_before zero past from u known h = refl
open_before (suc n) past from u known h =
    open-from (suc n) past known.0 known.1 (sym (answer_to-came (suc n) past from u) ∙ open_unanswered n (came from u ∷ past) h)

-- ---- answers

answers_known : (past : History) (n : ℕ) (h : Happening) (a : Option Answer) → (cancels : Option Cancels) → IsLawful cancels (h ∷ past) → answer_at n h ≡ Some a → IsKnown n past
answers_known past n (came from u) a cancels lawful is = absurd (cc)
answers_known past n (called m o) a cancels lawful is = absurd (cc)
answers_known past n (called_all m os) a cancels lawful is = absurd (cc)
answers_known past n (noticed o) a cancels lawful is = absurd (cc)
answers_known past n (withdrew by k) a cancels lawful is = absurd (cc)
answers_known past n (answered m b) a cancels lawful is =
    let it : m ≡ n = same m n (cond_some (m == n) b a is).0 in
    subst (λ l. IsKnown l past) it (known-open m past (answered_open cancels past m b lawful.0))
answers_known past n (ended close) a cancels lawful is = absurd (cc)

answered_from : (past : History) (n : ℕ) (h : Happening) (a : Option Answer) (cancels : Option Cancels) (o : Option (Option Answer)) → answer_to n past ≡ o → ((b : Option Answer) → answer_to n past ≡ Some b → IsKnown n past)
    → IsLawful cancels (h ∷ past) → or_else o (answer_at n h) ≡ Some a → IsKnown n past
answered_from past n h a cancels None before earlier lawful is = answers_known past n h a cancels lawful is
answered_from past n h a cancels (Some b) before earlier lawful is = earlier b before

-- what is answered is a call that has come
pub answered_known : (cancels : Option Cancels) (n : ℕ) (history : History) (a : Option Answer) → IsLawful cancels history → answer_to n history ≡ Some a → IsKnown n history
answered_known cancels n [] a lawful is = absurd (cc)
answered_known cancels n (h ∷ past) a lawful is =
    known-more n past h
    (answered_from past n h a cancels (answer_to n past) refl (λ b before. answered_known cancels n past b lawful.1 before) lawful is)

unanswered_if : (cancels : Option Cancels) (n : ℕ) (history : History) (o : Option (Option Answer)) → IsLawful cancels history → call_count history < suc n → answer_to (suc n) history ≡ o → answer_to (suc n) history ≡ None
unanswered_if cancels n history None lawful h is = is
unanswered_if cancels n history (Some a) lawful h is =
    let known = answered_known cancels (suc n) history a lawful is in
    absurd (omega (arith, (call_numbered-within (suc n) (stream history) known.0 known.1).1))

-- a call that hasn't come isn't answered
pub unknown_unanswered : (cancels : Option Cancels) (n : ℕ) (history : History) → IsLawful cancels history → call_count history < n → answer_to n history ≡ None
unknown_unanswered cancels zero history lawful h = absurd (omega arith)
unknown_unanswered cancels (suc n) history lawful h = unanswered_if cancels n history (answer_to (suc n) history) lawful h refl
