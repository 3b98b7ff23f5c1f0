-- The calls that came are those that are open and those that were closed.
use Rattle.std.proofs.Common.{◌≡◌, ◌≢◌, inl, inr, ℕ, zero, suc, ◌+◌, ◌<◌, ◌≤◌, ◌==◌, ◌&&◌, ◌||◌, not, List, [], ◌∷◌, ◌++◌, length, filter, Bool, true, false, cond, Option, Some, None, refl, sym, ap, ◌∙◌, append-nil, arith, length-append}
use Rattle.std.proofs.lemmas.Bool.{cases_lt}
use Rattle.std.proofs.lemmas.Option.{slice_get_within}
use Rattle.std.specs.Prelude.{slice_get, is_some}
use Rattle.std.specs.Option.{is_none}
use Rattle.connection_messages.specs.declared.answer.Answer.{Answer}
use Rattle.connection_messages.specs.declared.cancels.Cancels.{Cancels}
use Rattle.connection_messages.specs.declared.unit.Unit.{Unit}
use Rattle.connection_history.specs.declared.refused.Refused.{Refused}
use Rattle.connection_history.specs.declared.refused.Refused.TheVariants.{NotOpen, Empty}
use Rattle.connection_history.specs.Counts.{open_count}
use Rattle.connection_history.specs.Events.{call_count}
use Rattle.connection_history.specs.Refusals.{IsLawful, first_of, refusal, is_left, may_be_left}
use Rattle.connection_history.specs.Stream.{entries_in, entries_along, calls_in, call_numbered}
use Rattle.connection_history.specs.History.{Happening, came, called, called_all, noticed, withdrew, answered, ended, History, or_else, units_at, stream, answer_at, answer_to, is_open, numbers_to, Origin}
use Rattle.call_laws.specs.Figures.{closed_at, closed_count}
use Rattle.call_laws.proofs.Histories.{calls_in-append, stream-more, answered_closed}
use Rattle.call_laws.proofs.Lists.{filter-append}
use Rattle.call_laws.proofs.Tests.{same, same_test, different, or_else-none, is_some-some, and-left, and-right}

-- ---- how many of the numbers pass

abbrev one_if : Bool → ℕ
one_if true = 1
one_if false = 0

abbrev passing : (ℕ → Bool) → ℕ → ℕ
passing p n = length (filter p (numbers_to n))

last : (b : Bool) (n : ℕ) → length (cond b (n ∷ []) []) ≡ one_if b
last true n = refl
last false n = refl

next : (p : ℕ → Bool) (n : ℕ) → passing p (suc n) ≡ passing p n + one_if (p (suc n))
next p n =
    ap length (filter-append p (numbers_to n) (suc n ∷ [])) ∙ length-append (filter p (numbers_to n)) (filter p (suc n ∷ []))
    ∙ ap (λ m. passing p n + m) (last (p (suc n)) (suc n))

alike : (p q : ℕ → Bool) (n : ℕ) → ((k : ℕ) → 0 < k → k ≤ n → p k ≡ q k) → passing p n ≡ passing q n
alike p q zero agree = refl
alike p q (suc n) agree =
    let before = alike p q n (λ k some h. agree k some (omega arith)) in
    let here : one_if (p (suc n)) ≡ one_if (q (suc n)) = ap one_if (agree (suc n) (omega arith) (omega arith)) in
    let first = next p n in
    let second = next q n in
    omega (arith, before, here, first, second)

-- all that are new pass
more : (p : ℕ → Bool) (n m : ℕ) → ((k : ℕ) → n < k → k ≤ n + m → p k ≡ true) → passing p (n + m) ≡ passing p n + m
more p n zero all = let same_count : n + 0 ≡ n = omega arith in let it = ap (passing p) same_count in omega (arith, it)
more p n (suc m) all =
    let before = more p n m (λ k some h. all k some (omega arith)) in
    let here : one_if (p (suc (n + m))) ≡ 1 = ap one_if (all (suc (n + m)) (omega arith) (omega arith)) in
    let whole = next p (n + m) in
    let same_count : n + suc m ≡ suc (n + m) = omega arith in
    let it = ap (passing p) same_count in
    omega (arith, before, here, whole, it)

-- one passes no more
less : (p q : ℕ → Bool) (m n : ℕ) → 0 < m → m ≤ n → p m ≡ true → q m ≡ false → ((k : ℕ) → 0 < k → k ≢ m → p k ≡ q k) → passing p n ≡ passing q n + 1
less p q m zero some h was isnt agree = absurd (omega arith)
less p q m (suc n) some h was isnt agree = elim (cases_lt n m) [
  | inl at_last ↦
      let it : suc n ≡ m = omega arith in
      let front = alike p q n (λ k k_some k_le. agree k k_some (λ e. omega (arith, e))) in
      let first = next p n in
      let second = next q n in
      let passed : one_if (p (suc n)) ≡ 1 = ap (λ k. one_if (p k)) it ∙ ap one_if was in
      let missed : one_if (q (suc n)) ≡ 0 = ap (λ k. one_if (q k)) it ∙ ap one_if isnt in
      omega (arith, front, first, second, passed, missed)
  | inr front ↦
      let before = less p q m n some front was isnt agree in
      let first = next p n in
      let second = next q n in
      let here : one_if (p (suc n)) ≡ one_if (q (suc n)) = ap one_if (agree (suc n) (omega arith) (λ e. omega (arith, e))) in
      omega (arith, before, first, second, here)
]

-- ---- calls that came

slice_get-front : {X : Type 0} (xs ys : List X) (i : ℕ) → i < length xs → slice_get (xs ++ ys) i ≡ slice_get xs i
slice_get-front [] ys i h = absurd (omega arith)
slice_get-front (x ∷ xs) ys zero h = refl
slice_get-front (x ∷ xs) ys (suc i) h = slice_get-front xs ys i (omega arith)

known_at : {X : Type 0} (xs : List X) (i : ℕ) → i < length xs → (x : X) × (slice_get xs i ≡ Some x)
known_at [] i h = absurd (omega arith)
known_at (x ∷ xs) zero h = (x, refl)
known_at (x ∷ xs) (suc i) h = known_at xs i (omega arith)

call_count-came : (past : History) (o : Option Origin) (u : Unit) → call_count (came o u ∷ past) ≡ call_count past + length (calls_in (entries_in u))
call_count-came past o u =
    ap (λ es. length (calls_in es)) (stream-more past (came o u) ∙ ap (λ es. stream past ++ es) (append-nil (entries_in u)))
    ∙ ap length (calls_in-append (stream past) (entries_in u)) ∙ length-append (calls_in (stream past)) (calls_in (entries_in u))

came_known : (n : ℕ) (past : History) (o : Option Origin) (u : Unit) → 0 < n → n ≤ call_count past → is_open n (came o u ∷ past) ≡ is_open n past
came_known zero past o u some h = absurd (omega arith)
came_known (suc n) past o u some h =
    let at : call_numbered (suc n) (stream (came o u ∷ past)) ≡ call_numbered (suc n) (stream past) =
    ap (call_numbered (suc n)) (stream-more past (came o u)) ∙ ap (λ cs. slice_get cs n) (calls_in-append (stream past) (entries_along (units_at (came o u))))
    ∙ slice_get-front (calls_in (stream past)) (calls_in (entries_along (units_at (came o u)))) n (omega arith) in
    λ i. is_some (at i) && is_none (or_else-none (answer_to (suc n) past) i)

came_new : (n : ℕ) (past : History) (o : Option Origin) (u : Unit) → 0 < n → n ≤ call_count (came o u ∷ past) → answer_to n past ≡ None → is_open n (came o u ∷ past) ≡ true
came_new zero past o u some h none = refl
came_new (suc n) past o u some h none =
    let at = known_at (calls_in (stream (came o u ∷ past))) n (omega arith) in
    λ i. is_some (at.1 i) && is_none ((or_else-none (answer_to (suc n) past) ∙ none) i)

-- ---- calls that were answered had come

neither_test : (zero_test opened : Bool) (tests : List (Bool × Refused)) → first_of ((zero_test || not opened, NotOpen) ∷ tests) ≡ None → (zero_test ≡ false) × (opened ≡ true)
neither_test true opened tests h = absurd (cc)
neither_test false true tests h = (refl, refl)
neither_test false false tests h = absurd (cc)

abbrev Answerable : ℕ → History → Type 0
Answerable m past = (0 < m) × (m ≤ call_count past) × (is_open m past ≡ true)

answerable : (cancels : Option Cancels) (past : History) (m : ℕ) (a : Option Answer) → refusal cancels past (answered m a) ≡ None → Answerable m past
answerable cancels past zero a taken = absurd (let test = neither_test (0 == 0) (is_open 0 past) ((is_left a && not (may_be_left cancels 0 past), Empty) ∷ []) taken in let none = test.0 in cc)
answerable cancels past (suc m) a taken =
    let test = neither_test (suc m == 0) (is_open (suc m) past) ((is_left a && not (may_be_left cancels (suc m) past), Empty) ∷ []) taken in
    let opened = test.1 in
    let known = is_some-some (call_numbered (suc m) (stream past)) (and-left _ (is_none (answer_to (suc m) past)) opened) in
    let bound = slice_get_within (calls_in (stream past)) m known.0 known.1 in
    (omega arith, omega (arith, bound), opened)

grows : (past : History) (h : Happening) → call_count past ≤ call_count (h ∷ past)
grows past h =
    let all : call_count (h ∷ past) ≡ call_count past + length (calls_in (entries_along (units_at h))) =
    ap (λ es. length (calls_in es)) (stream-more past h) ∙ ap length (calls_in-append (stream past) (entries_along (units_at h))) ∙ length-append (calls_in (stream past)) (calls_in (entries_along (units_at h))) in
    omega (arith, all)

value_if : {A : Type 0} (b : Bool) (x y : A) → cond b (Some x) None ≡ Some y → b ≡ true
value_if true x y h = refl
value_if false x y h = absurd (cc)

answered_came : (cancels : Option Cancels) (n : ℕ) (history : History) (a : Option Answer) → IsLawful cancels history → answer_to n history ≡ Some a → n ≤ call_count history
answered_came cancels n [] a lawful is = absurd (cc)
answered_came cancels n (h ∷ past) a lawful is = from (λ b was. answered_came cancels n past b lawful.1 was) (answer_to n past) refl
  where
    now : (h : Happening) → refusal cancels past h ≡ None → answer_at n h ≡ Some a → n ≤ call_count past
    now (came o u) taken at = absurd (cc)
    now (called m o) taken at = absurd (cc)
    now (called_all m os) taken at = absurd (cc)
    now (noticed o) taken at = absurd (cc)
    now (withdrew by k) taken at = absurd (cc)
    now (answered m b) taken at =
        let it : m ≡ n = same m n (value_if (m == n) b a at) in
        let bound = (answerable cancels past m b taken).1 in
        omega (arith, it, bound)
    now (ended close) taken at = absurd (cc)

    from : ((b : Option Answer) → answer_to n past ≡ Some b → n ≤ call_count past) → (o : Option (Option Answer)) → answer_to n past ≡ o → n ≤ call_count (h ∷ past)
    from before None was =
        let it : answer_at n h ≡ Some a = ap (λ o. or_else o (answer_at n h)) (sym was) ∙ is in
        let bound = now h lawful.0 it in
        let all = grows past h in
        omega (arith, bound, all)
    from before (Some b) was = let bound = before b was in let all = grows past h in omega (arith, bound, all)

unanswered_new : (cancels : Option Cancels) (n : ℕ) (history : History) → IsLawful cancels history → call_count history < n → answer_to n history ≡ None
unanswered_new cancels n history lawful h = from (answer_to n history) refl
  where
    from : (o : Option (Option Answer)) → answer_to n history ≡ o → answer_to n history ≡ None
    from None is = is
    from (Some a) is = absurd (let bound = answered_came cancels n history a lawful is in omega (arith, bound))

-- ---- what neither comes nor answers

said_stream : (past : History) (h : Happening) → units_at h ≡ [] → stream (h ∷ past) ≡ stream past
said_stream past h none = stream-more past h ∙ ap (λ us. stream past ++ entries_along us) none ∙ append-nil (stream past)

said_open : (n : ℕ) (past : History) (h : Happening) → units_at h ≡ [] → answer_at n h ≡ None → is_open n (h ∷ past) ≡ is_open n past
said_open zero past h none silent = refl
said_open (suc n) past h none silent =
    let answer : answer_to (suc n) (h ∷ past) ≡ answer_to (suc n) past = ap (or_else (answer_to (suc n) past)) silent ∙ or_else-none (answer_to (suc n) past) in
    λ i. is_some (call_numbered (suc n) (said_stream past h none i)) && is_none (answer i)

abbrev AddsUp : History → Type 0
AddsUp history = open_count history + closed_count history ≡ call_count history

silent_adds : (past : History) (h : Happening) → units_at h ≡ [] → ((n : ℕ) → answer_at n h ≡ None) → closed_at h ≡ 0 → AddsUp past → AddsUp (h ∷ past)
silent_adds past h none silent closes before =
    let count : call_count (h ∷ past) ≡ call_count past = ap (λ es. length (calls_in es)) (said_stream past h none) in
    let opened : open_count (h ∷ past) ≡ open_count past =
    ap (passing (λ n. is_open n (h ∷ past))) count ∙ alike (λ n. is_open n (h ∷ past)) (λ n. is_open n past) (call_count past) (λ n some le. said_open n past h none (silent n)) in
    omega (arith, count, opened, closes, before)

answer_adds : (cancels : Option Cancels) (past : History) (m : ℕ) (a : Option Answer) → refusal cancels past (answered m a) ≡ None → AddsUp past → AddsUp (answered m a ∷ past)
answer_adds cancels past zero a taken before = absurd (let it = (answerable cancels past 0 a taken).0 in omega (arith, it))
answer_adds cancels past (suc m) a taken before =
    let may = answerable cancels past (suc m) a taken in
    let count : call_count (answered (suc m) a ∷ past) ≡ call_count past = ap (λ es. length (calls_in es)) (said_stream past (answered (suc m) a) refl) in
    let none : answer_to (suc m) past ≡ None = none_of (answer_to (suc m) past) (and-right (is_some (call_numbered (suc m) (stream past))) _ may.2) in
    let now : answer_to (suc m) (answered (suc m) a ∷ past) ≡ Some a = λ i. or_else (none i) (cond (same_test (suc m) (suc m) refl i) (Some a) None) in
    let gone = less (λ n. is_open n past) (λ n. is_open n (answered (suc m) a ∷ past)) (suc m) (call_count past) may.0 may.1 may.2 (answered_closed m (answered (suc m) a ∷ past) a now)
    (λ k some other. sym (said_open k past (answered (suc m) a) refl (ap (λ b. cond b (Some a) None) (different (suc m) k (λ e. other (sym e)))))) in
    let opened : open_count (answered (suc m) a ∷ past) ≡ passing (λ n. is_open n (answered (suc m) a ∷ past)) (call_count past) = ap (passing (λ n. is_open n (answered (suc m) a ∷ past))) count in
    omega (arith, count, gone, opened, before)
  where
    none_of : (o : Option (Option Answer)) → is_none o ≡ true → o ≡ None
    none_of None h = refl
    none_of (Some x) h = absurd (cc)

came_adds : (cancels : Option Cancels) (past : History) (o : Option Origin) (u : Unit) → IsLawful cancels past → AddsUp past → AddsUp (came o u ∷ past)
came_adds cancels past o u lawful before =
    let count = call_count-came past o u in
    let known = alike (λ n. is_open n (came o u ∷ past)) (λ n. is_open n past) (call_count past) (λ n some le. came_known n past o u some le) in
    let new = more (λ n. is_open n (came o u ∷ past)) (call_count past) (length (calls_in (entries_in u)))
    (λ k some le. came_new k past o u (omega (arith, some)) (omega (arith, le, count)) (unanswered_new cancels k past lawful some)) in
    let opened : open_count (came o u ∷ past) ≡ passing (λ n. is_open n (came o u ∷ past)) (call_count past + length (calls_in (entries_in u))) = ap (passing (λ n. is_open n (came o u ∷ past))) count in
    omega (arith, count, known, new, opened, before)

pub adds_up : (cancels : Option Cancels) (history : History) → IsLawful cancels history → open_count history + closed_count history ≡ call_count history
adds_up cancels [] lawful = refl
adds_up cancels (came o u ∷ past) lawful = came_adds cancels past o u lawful.1 (adds_up cancels past lawful.1)
adds_up cancels (called n o ∷ past) lawful = silent_adds past (called n o) refl (λ m. refl) refl (adds_up cancels past lawful.1)
adds_up cancels (called_all n os ∷ past) lawful = silent_adds past (called_all n os) refl (λ m. refl) refl (adds_up cancels past lawful.1)
adds_up cancels (noticed o ∷ past) lawful = silent_adds past (noticed o) refl (λ m. refl) refl (adds_up cancels past lawful.1)
adds_up cancels (withdrew by k ∷ past) lawful = silent_adds past (withdrew by k) refl (λ m. refl) refl (adds_up cancels past lawful.1)
adds_up cancels (answered m a ∷ past) lawful = answer_adds cancels past m a lawful.0 (adds_up cancels past lawful.1)
adds_up cancels (ended close ∷ past) lawful = silent_adds past (ended close) refl (λ m. refl) refl (adds_up cancels past lawful.1)
