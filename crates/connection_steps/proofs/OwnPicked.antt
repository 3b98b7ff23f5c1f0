-- What passes of the numbers to n, each with its value.
use Rattle.std.proofs.Common.{◌≡◌, ℕ, zero, suc, ◌<◌, ◌≤◌, ◌==◌, ◌&&◌, List, [], ◌∷◌, ◌++◌, map, Bool, true, false, cond, inl, inr, Option, Some, None, refl, sym, ap, subst, ◌∙◌, arith}
use Rattle.std.proofs.lemmas.Bool.{cases_lt}
use Rattle.std.proofs.lemmas.List.{map-append}
use Rattle.std.proofs.lemmas.List.Elements.{filter-append}
use Rattle.std.specs.Prelude.{filter}
use Rattle.connection_history.specs.History.{numbers_to, or_else}
use Rattle.connection_history.proofs.Tests.{same, same_test, different, or_else-none}
use Rattle.open_calls.specs.Numbered.{at, changed_at}

-- a number with its value
abbrev pub with_value : {X : Type 0} → (ℕ → X) → ℕ → ℕ × X
with_value v k = (k, v k)

-- those that pass, each with its value
abbrev pub picked : {X : Type 0} → (ℕ → Bool) → (ℕ → X) → ℕ → List (ℕ × X)
picked p v n = map (with_value v) (filter p (numbers_to n))

-- the last of them, where it passes
abbrev last : {X : Type 0} → Bool → ℕ → X → List (ℕ × X)
last b k x = cond b ((k, x) ∷ []) []

last_picked : {X : Type 0} (b : Bool) (v : ℕ → X) (n : ℕ) → map (with_value v) (cond b (n ∷ []) []) ≡ last b n (v n)
last_picked true v n = refl
last_picked false v n = refl

-- with one number more
pub picked-more : {X : Type 0} (p : ℕ → Bool) (v : ℕ → X) (n : ℕ) → picked p v (suc n) ≡ picked p v n ++ cond (p (suc n)) ((suc n, v (suc n)) ∷ []) []
picked-more p v n =
    ap (map (with_value v)) (filter-append p (numbers_to n) (suc n ∷ []))
    ∙ map-append (with_value v) (filter p (numbers_to n)) (cond (p (suc n)) (suc n ∷ []) [])
    ∙ ap (λ l. picked p v n ++ l) (last_picked (p (suc n)) v (suc n))

-- ---- tests and values that agree

last-agree : {X : Type 0} (b c : Bool) (k : ℕ) (x y : X) → b ≡ c → (c ≡ true → x ≡ y) → last b k x ≡ last c k y
last-agree b true k x y test value = λ i. last (test i) k (value refl i)
last-agree b false k x y test value = ap (λ t. last t k x) test

-- what agrees on the numbers to n picks the same
pub picked-agree : {X : Type 0} (p q : ℕ → Bool) (v w : ℕ → X) (n : ℕ) → ((k : ℕ) → 0 < k → k ≤ n → p k ≡ q k) → ((k : ℕ) → 0 < k → k ≤ n → q k ≡ true → v k ≡ w k)
    → picked p v n ≡ picked q w n
picked-agree p q v w zero test value = refl
picked-agree p q v w (suc n) test value =
    picked-more p v n
    ∙ (λ i. picked-agree p q v w n (λ k some h. test k some (omega arith)) (λ k some h. value k some (omega arith)) i
    ++ last-agree (p (suc n)) (q (suc n)) (suc n) (v (suc n)) (w (suc n)) (test (suc n) (omega arith) (omega arith)) (value (suc n) (omega arith) (omega arith)) i)
    ∙ sym (picked-more q w n)

-- ---- what stands under a number

at_step : {X : Type 0} (b : Bool) (x : X) (o p later : Option X) → o ≡ or_else p later → cond b (Some x) o ≡ or_else (cond b (Some x) p) later
at_step true x o p later h = refl
at_step false x o p later h = h

-- in a list and then another
pub at-append : {X : Type 0} (k : ℕ) (es fs : List (ℕ × X)) → at k (es ++ fs) ≡ or_else (at k es) (at k fs)
at-append k [] fs = refl
at-append k (e ∷ es) fs = at_step (k == e.0) e.1 (at k (es ++ fs)) (at k es) (at k fs) (at-append k es fs)

last-other : {X : Type 0} (b : Bool) (k m : ℕ) (x : X) → (k == m) ≡ false → at k (last b m x) ≡ None
last-other true k m x h = ap (λ t. cond t (Some x) None) h
last-other false k m x h = refl

last-here : {X : Type 0} (b : Bool) (k : ℕ) (x : X) → at k (last b k x) ≡ cond b (Some x) None
last-here true k x = ap (λ t. cond t (Some x) None) (same_test k k refl)
last-here false k x = refl

last-failing : {X : Type 0} (b c : Bool) (k m : ℕ) (x : X) → (k == m) ≡ c → (c ≡ true → b ≡ false) → at k (last b m x) ≡ None
last-failing b true k m x is fails = ap (λ t. at k (last t m x)) (fails refl)
last-failing b false k m x is fails = last-other b k m x is

at-more : {X : Type 0} (p : ℕ → Bool) (v : ℕ → X) (k n : ℕ) → at k (picked p v (suc n)) ≡ or_else (at k (picked p v n)) (at k (last (p (suc n)) (suc n) (v (suc n))))
at-more p v k n = ap (at k) (picked-more p v n) ∙ at-append k (picked p v n) (last (p (suc n)) (suc n) (v (suc n)))

at-beyond : {X : Type 0} (p : ℕ → Bool) (v : ℕ → X) (k n : ℕ) → n < k → at k (picked p v n) ≡ None
at-beyond p v k zero h = refl
at-beyond p v k (suc n) h =
    at-more p v k n ∙ (λ i. or_else (at-beyond p v k n (omega arith) i) (last-other (p (suc n)) k (suc n) (v (suc n)) (different k (suc n) (λ e. omega arith)) i))

at-last : {X : Type 0} (p : ℕ → Bool) (v : ℕ → X) (n : ℕ) → at (suc n) (picked p v (suc n)) ≡ cond (p (suc n)) (Some (v (suc n))) None
at-last p v n =
    at-more p v (suc n) n ∙ (λ i. or_else (at-beyond p v (suc n) n (omega arith) i) (last-here (p (suc n)) (suc n) (v (suc n)) i))

at-within : {X : Type 0} (p : ℕ → Bool) (v : ℕ → X) (k n : ℕ) → 0 < k → k ≤ n → at k (picked p v n) ≡ cond (p k) (Some (v k)) None
at-within p v k zero some h = absurd (omega arith)
at-within p v k (suc n) some h = elim (cases_lt n k) [
  | inl it ↦ let is : suc n ≡ k = omega arith in subst (λ m. at m (picked p v (suc n)) ≡ cond (p m) (Some (v m)) None) is (at-last p v n)
  | inr front ↦
      at-more p v k n
      ∙ (λ i. or_else (at-within p v k n some front i) (last-other (p (suc n)) k (suc n) (v (suc n)) (different k (suc n) (λ e. omega arith)) i))
      ∙ or_else-none (cond (p k) (Some (v k)) None)
]

-- nothing stands under a number that fails
at-failing : {X : Type 0} (p : ℕ → Bool) (v : ℕ → X) (k n : ℕ) → p k ≡ false → at k (picked p v n) ≡ None
at-failing p v k zero h = refl
at-failing p v k (suc n) h =
    at-more p v k n
    ∙ (λ i. or_else (at-failing p v k n h i)
    (last-failing (p (suc n)) (k == suc n) k (suc n) (v (suc n)) refl (λ is. ap p (sym (same k (suc n) is)) ∙ h) i))

at-tested : {X : Type 0} (p : ℕ → Bool) (v : ℕ → X) (k n : ℕ) (b : Bool) → p k ≡ b → (p k ≡ true → (0 < k) × (k ≤ n)) → at k (picked p v n) ≡ cond b (Some (v k)) None
at-tested p v k n true is range = at-within p v k n (range is).0 (range is).1 ∙ ap (λ t. cond t (Some (v k)) None) is
at-tested p v k n false is range = at-failing p v k n is

-- what passes only where it is one of these numbers is found by its number
pub at-picked : {X : Type 0} (p : ℕ → Bool) (v : ℕ → X) (k n : ℕ) → (p k ≡ true → (0 < k) × (k ≤ n)) → at k (picked p v n) ≡ cond (p k) (Some (v k)) None
at-picked p v k n range = at-tested p v k n (p k) refl range

-- ---- parts of them, and changes of each

passed_too : {X : Type 0} (c : Bool) (v : ℕ → X) (k : ℕ) (es : List (ℕ × X)) (ks : List ℕ) → es ≡ map (with_value v) ks
    → cond c ((k, v k) ∷ es) es ≡ map (with_value v) (cond c (k ∷ ks) ks)
passed_too true v k es ks is = ap (λ l. (k, v k) ∷ l) is
passed_too false v k es ks is = is

passed_both : {X : Type 0} (t : ℕ × X → Bool) (v : ℕ → X) (b : Bool) (k : ℕ) (ks ls : List ℕ) → filter t (map (with_value v) ks) ≡ map (with_value v) ls
    → filter t (map (with_value v) (cond b (k ∷ ks) ks)) ≡ map (with_value v) (cond (b && t (k, v k)) (k ∷ ls) ls)
passed_both t v true k ks ls is = passed_too (t (k, v k)) v k (filter t (map (with_value v) ks)) ls is
passed_both t v false k ks ls is = is

passed_of : {X : Type 0} (t : ℕ × X → Bool) (p : ℕ → Bool) (v : ℕ → X) (ks : List ℕ)
    → filter t (map (with_value v) (filter p ks)) ≡ map (with_value v) (filter (λ k. p k && t (k, v k)) ks)
passed_of t p v [] = refl
passed_of t p v (k ∷ ks) = passed_both t v (p k) k (filter p ks) (filter (λ j. p j && t (j, v j)) ks) (passed_of t p v ks)

-- those that pass one more test
pub filter-picked : {X : Type 0} (t : ℕ × X → Bool) (p : ℕ → Bool) (v : ℕ → X) (n : ℕ) → filter t (picked p v n) ≡ picked (λ k. p k && t (k, v k)) v n
filter-picked t p v n = passed_of t p v (numbers_to n)

-- what is made of each number and its value
pub map-with_value : {X Y : Type 0} (f : ℕ × X → Y) (v : ℕ → X) (ks : List ℕ) → map f (map (with_value v) ks) ≡ map (λ k. f (k, v k)) ks
map-with_value f v [] = refl
map-with_value f v (k ∷ ks) = ap (λ l. f (k, v k) ∷ l) (map-with_value f v ks)

-- the value of one number is changed
pub changed-picked : {X : Type 0} (j : ℕ) (f : X → X) (p : ℕ → Bool) (v : ℕ → X) (n : ℕ) → changed_at j f (picked p v n) ≡ picked p (λ k. cond (j == k) (f (v k)) (v k)) n
changed-picked j f p v n = map-with_value (λ e. (e.0, cond (j == e.0) (f e.1) e.1)) v (filter p (numbers_to n))

same_numbers : (ks : List ℕ) → map (λ k. k) ks ≡ ks
same_numbers [] = refl
same_numbers (k ∷ ks) = ap (λ l. k ∷ l) (same_numbers ks)

-- the numbers alone
pub numbers-picked : {X : Type 0} (p : ℕ → Bool) (v : ℕ → X) (n : ℕ) → map (λ e. e.0) (picked p v n) ≡ filter p (numbers_to n)
numbers-picked p v n = map-with_value (λ e. e.0) v (filter p (numbers_to n)) ∙ same_numbers (filter p (numbers_to n))
