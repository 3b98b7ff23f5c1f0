-- How often a number stands in a list, and in what passes of the numbers to n.
use Rattle.std.proofs.Common.{◌≡◌, ℕ, zero, suc, ◌+◌, ◌<◌, ◌≤◌, ◌==◌, List, [], ◌∷◌, ◌++◌, length, Bool, true, false, cond, inl, inr, refl, sym, ap, subst, ◌∙◌, length-append, arith}
use Rattle.std.proofs.lemmas.Bool.{cases_lt}
use Rattle.std.proofs.lemmas.List.Elements.{filter-append, Contains-append_left, Contains-push, Contains-push_cases}
use Rattle.std.proofs.lemmas.List.Kept.{IsStrictlyIncreasing-filter}
use Rattle.std.specs.List.{Contains}
use Rattle.std.specs.List.Sorted.{IsStrictlyIncreasing}
use Rattle.std.specs.Prelude.{filter}
use Rattle.connection_history.specs.History.{numbers_to}
use Rattle.connection_history.proofs.Rise.{Rise, rise-append, strict}
use Rattle.connection_history.proofs.Tests.{same_test, different}

-- 1 where the test holds
abbrev pub one_if : Bool → ℕ
one_if b = cond b 1 0

-- how often a number stands in a list
abbrev pub occurs : ℕ → List ℕ → ℕ
occurs k [] = 0
occurs k (n ∷ ns) = one_if (n == k) + occurs k ns

-- how often a number stands in two lists
pub occurs-append : (k : ℕ) (ns more : List ℕ) → occurs k (ns ++ more) ≡ occurs k ns + occurs k more
occurs-append k [] more = omega arith
occurs-append k (n ∷ ns) more = omega (arith, occurs-append k ns more)

-- the last of the numbers, if it passes
occurs-last : (k n : ℕ) (b : Bool) → occurs k (cond b (n ∷ []) []) ≡ cond b (one_if (n == k)) 0
occurs-last k n true = omega arith
occurs-last k n false = refl

occurs-more : (p : ℕ → Bool) (k n : ℕ) → occurs k (filter p (numbers_to (suc n))) ≡ occurs k (filter p (numbers_to n)) + cond (p (suc n)) (one_if (suc n == k)) 0
occurs-more p k n =
    ap (occurs k) (filter-append p (numbers_to n) (suc n ∷ []))
    ∙ occurs-append k (filter p (numbers_to n)) (filter p (suc n ∷ []))
    ∙ ap (λ m. occurs k (filter p (numbers_to n)) + m) (occurs-last k (suc n) (p (suc n)))

other : (b c : Bool) → c ≡ false → cond b (one_if c) 0 ≡ 0
other true true h = absurd (cc)
other true false h = refl
other false c h = refl

here : (b c : Bool) → c ≡ true → cond b (one_if c) 0 ≡ one_if b
here b true h = refl
here b false h = absurd (cc)

-- a number beyond them doesn't stand there
pub occurs-beyond : (p : ℕ → Bool) (k n : ℕ) → n < k → occurs k (filter p (numbers_to n)) ≡ 0
occurs-beyond p k zero h = refl
occurs-beyond p k (suc n) h =
    let last = other (p (suc n)) (suc n == k) (different (suc n) k (λ e. omega arith)) in
    omega (arith, occurs-more p k n, occurs-beyond p k n (omega arith), last)

-- nor does 0
pub occurs-zero : (p : ℕ → Bool) (n : ℕ) → occurs 0 (filter p (numbers_to n)) ≡ 0
occurs-zero p zero = refl
occurs-zero p (suc n) =
    let last = other (p (suc n)) (suc n == 0) (different (suc n) 0 (λ e. omega arith)) in
    omega (arith, occurs-more p 0 n, occurs-zero p n, last)

at_last : (p : ℕ → Bool) (k n : ℕ) → k ≡ suc n → occurs k (filter p (numbers_to (suc n))) ≡ one_if (p k)
at_last p k n e =
    let last = here (p (suc n)) (suc n == k) (same_test (suc n) k (sym e)) in
    let same_p : one_if (p (suc n)) ≡ one_if (p k) = ap (λ m. one_if (p m)) (sym e) in
    omega (arith, occurs-more p k n, occurs-beyond p k n (omega arith), last, same_p)

before_last : (p : ℕ → Bool) (k n : ℕ) → k ≤ n → occurs k (filter p (numbers_to n)) ≡ one_if (p k) → occurs k (filter p (numbers_to (suc n))) ≡ one_if (p k)
before_last p k n h before =
    let last = other (p (suc n)) (suc n == k) (different (suc n) k (λ e. omega arith)) in
    omega (arith, occurs-more p k n, before, last)

-- one of them stands there once, if it passes
pub occurs-within : (p : ℕ → Bool) (k n : ℕ) → 0 < k → k ≤ n → occurs k (filter p (numbers_to n)) ≡ one_if (p k)
occurs-within p k zero some h = absurd (omega arith)
occurs-within p k (suc n) some h = elim (cases_lt n k) [
  | inl last ↦ at_last p k n (omega arith)
  | inr front ↦ before_last p k n front (occurs-within p k n some front)
]

fails : (p : ℕ → Bool) (k n : ℕ) → p k ≡ false → occurs k (filter p (numbers_to n)) ≡ one_if (p k)
fails p zero n h = occurs-zero p n ∙ sym (ap one_if h)
fails p (suc k) n h = elim (cases_lt n (suc k)) [
  | inl beyond ↦ occurs-beyond p (suc k) n beyond ∙ sym (ap one_if h)
  | inr within ↦ occurs-within p (suc k) n (omega arith) within
]

by_test : (p : ℕ → Bool) (k n : ℕ) (b : Bool) → p k ≡ b → (p k ≡ true → (0 < k) × (k ≤ n)) → occurs k (filter p (numbers_to n)) ≡ one_if (p k)
by_test p k n true passes range = occurs-within p k n (range passes).0 (range passes).1
by_test p k n false passes range = fails p k n passes

-- What passes only where it is one of these numbers stands among those that pass once.
pub occurs-passing : (p : ℕ → Bool) (k n : ℕ) → (p k ≡ true → (0 < k) × (k ≤ n)) → occurs k (filter p (numbers_to n)) ≡ one_if (p k)
occurs-passing p k n range = by_test p k n (p k) refl range

-- ---- the numbers to n

-- they are n
pub length-numbers_to : (n : ℕ) → length (numbers_to n) ≡ n
length-numbers_to zero = refl
length-numbers_to (suc n) = omega (arith, length-append (numbers_to n) (suc n ∷ []), length-numbers_to n)

-- they begin with 1, and go up
pub numbers_to-rise : (n : ℕ) → Rise 1 (n + 1) (numbers_to n)
numbers_to-rise zero = omega arith
numbers_to-rise (suc n) = rise-append 1 (n + 1) (suc n + 1) (numbers_to n) (suc n ∷ []) (numbers_to-rise n) (omega arith, omega arith)

-- what passes of them goes up
pub passing-rise : (p : ℕ → Bool) (n : ℕ) → IsStrictlyIncreasing (filter p (numbers_to n))
passing-rise p n = IsStrictlyIncreasing-filter p (numbers_to n) (strict 1 (n + 1) (numbers_to n) (numbers_to-rise n))

-- each number from 1 to n is among them
pub numbers_to-has : (n k : ℕ) → 0 < k → k ≤ n → Contains (numbers_to n) k
numbers_to-has zero k some h = absurd (omega arith)
numbers_to-has (suc n) k some h = elim (cases_lt n k) [
  | inl last ↦ let it : suc n ≡ k = omega arith in subst (Contains (numbers_to (suc n))) it (Contains-push (numbers_to n) (suc n))
  | inr front ↦ Contains-append_left (numbers_to n) (suc n ∷ []) k (numbers_to-has n k some front)
]

-- and no other is
pub numbers_to-within : (n k : ℕ) → Contains (numbers_to n) k → (0 < k) × (k ≤ n)
numbers_to-within zero k h = let none = h.1 in absurd (omega arith)
numbers_to-within (suc n) k h = elim (Contains-push_cases (numbers_to n) (suc n) k h) [
  | inl front ↦ let before = numbers_to-within n k front in (before.0, omega (arith, before.1))
  | inr last ↦ (omega arith, omega arith)
]

-- tests that agree on them let the same pass
pub passing-agree : (p q : ℕ → Bool) (n : ℕ) → ((k : ℕ) → 0 < k → k ≤ n → p k ≡ q k) → filter p (numbers_to n) ≡ filter q (numbers_to n)
passing-agree p q zero agree = refl
passing-agree p q (suc n) agree =
    filter-append p (numbers_to n) (suc n ∷ [])
    ∙ (λ i. passing-agree p q n (λ k some h. agree k some (omega arith)) i ++ cond (agree (suc n) (omega arith) (omega arith) i) (suc n ∷ []) [])
    ∙ sym (filter-append q (numbers_to n) (suc n ∷ []))
