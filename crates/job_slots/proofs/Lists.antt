-- Lists read at one place, as std and as the table of atomic steps read them.
use Rattle.std.proofs.Common.{◌≡◌, ℕ, zero, suc, ◌+◌, ◌<◌, Bool, cond, List, [], ◌∷◌, ◌++◌, map, length, get_or, set, replicate, sym, refl, ap, ◌∙◌, subst, zero-add, arith}
use Rattle.std.specs.Prelude.{slice_get, Some, count_by}
use Rattle.std.proofs.lemmas.List.Sums.{sum_by-set, sum_by-append}
use mathlib.Core.Option.{some, some-injective, some-ne-none}
use lib.ListN.{get_elem?}

module _ {A : Type 0} where
  pub at_of_get : (l : List A) (i : ℕ) (a : A) → slice_get l i ≡ Some a → get_elem? l i ≡ some a
  at_of_get [] i a e = cc
  at_of_get (x ∷ xs) zero a e = ap some (let p : x ≡ a = cc in p)
  at_of_get (x ∷ xs) (suc i) a e = at_of_get xs i a e

  pub get_of_at : (l : List A) (i : ℕ) (a : A) → get_elem? l i ≡ some a → slice_get l i ≡ Some a
  get_of_at [] i a e = cc
  get_of_at (x ∷ xs) zero a e = ap Some (some-injective x a e)
  get_of_at (x ∷ xs) (suc i) a e = get_of_at xs i a e

  -- what a mapped list has at a place comes from what the list has there
  pub at_mapped : {B : Type 0} (f : A → B) (l : List A) (i : ℕ) (b : B) → get_elem? (map f l) i ≡ some b → (a : A) × (get_elem? l i ≡ some a) × (f a ≡ b)
  at_mapped f [] i b e = absurd (some-ne-none b (sym e))
  at_mapped f (x ∷ xs) zero b e = (x, refl, some-injective (f x) b e)
  at_mapped f (x ∷ xs) (suc i) b e = at_mapped f xs i b e

  pub map-replicate : {B : Type 0} (f : A → B) (n : ℕ) (a : A) → map f (replicate n a) ≡ replicate n (f a)
  map-replicate f zero a = refl
  map-replicate {B} f (suc n) a = ap (λ (bs : List B). f a ∷ bs) (map-replicate f n a)

  pub get_or_at : (l : List A) (i : ℕ) (a d : A) → get_elem? l i ≡ some a → get_or l i d ≡ a
  get_or_at [] i a d e = absurd (some-ne-none a (sym e))
  get_or_at (x ∷ xs) zero a d e = some-injective x a e
  get_or_at (x ∷ xs) (suc i) a d e = get_or_at xs i a d e

  -- what is written back where it was read changes nothing
  pub set_read : (l : List A) (i : ℕ) (d : A) → set l i (get_or l i d) ≡ l
  set_read [] i d = refl
  set_read (x ∷ xs) zero d = refl
  set_read (x ∷ xs) (suc i) d = ap (λ (ys : List A). x ∷ ys) (set_read xs i d)

  pub get_set : (l : List A) (i : ℕ) (a b : A) → slice_get l i ≡ Some a → slice_get (set l i b) i ≡ Some b
  get_set [] i a b e = cc
  get_set (x ∷ xs) zero a b e = refl
  get_set (x ∷ xs) (suc i) a b e = get_set xs i a b e

  pub set_twice : (l : List A) (i : ℕ) (a b : A) → set (set l i a) i b ≡ set l i b
  set_twice [] i a b = refl
  set_twice (x ∷ xs) zero a b = refl
  set_twice (x ∷ xs) (suc i) a b = ap (λ (ys : List A). x ∷ ys) (set_twice xs i a b)

  pub nothing_held : (l : List A) → length l ≡ 0 → l ≡ []
  nothing_held [] e = refl
  nothing_held (x ∷ xs) e = absurd (omega arith)

  -- a pair, from what its second part is
  pub holding : {B : Type 0} (m : A × B) (held : B) → m.1 ≡ held → m ≡ (m.0, held)
  holding m held e = λ k. (m.0, e k)

  -- the value in the slot that a seat took last
  abbrev pub value_held : A → List (ℕ × A) → A
  value_held d [] = d
  value_held d (x ∷ xs) = x.1

  pub same_held : (held : List (ℕ × A)) (i : ℕ) (a b : A) → held ≡ (i, a) ∷ [] → held ≡ (i, b) ∷ [] → a ≡ b
  same_held held i a b e f = ap (value_held a) (sym e ∙ f)

  pub at_within : (l : List A) (i : ℕ) (a : A) → get_elem? l i ≡ some a → i < length l
  at_within [] i a e = absurd (some-ne-none a (sym e))
  at_within (x ∷ xs) zero a e = omega arith
  at_within (x ∷ xs) (suc i) a e = let h = at_within xs i a e in omega arith

  -- the count of a kind, as one element is replaced by another
  pub count_set : (p : A → Bool) (l : List A) (i : ℕ) (a b : A) → get_elem? l i ≡ some a → count_by p (set l i b) + cond (p a) 1 0 ≡ count_by p l + cond (p b) 1 0
  count_set p l i a b e = subst (λ (x : A). count_by p (set l i b) + cond (p x) 1 0 ≡ count_by p l + cond (p b) 1 0) (get_or_at l i a a e) (sum_by-set (λ x. cond (p x) 1 0) l i b a (at_within l i a e))

  pub count_snoc : (p : A → Bool) (l : List A) (b : A) → count_by p (l ++ b ∷ []) ≡ count_by p l + cond (p b) 1 0
  count_snoc p l b = sum_by-append (λ x. cond (p x) 1 0) l (b ∷ []) ∙ ap (λ (n : ℕ). count_by p l + n) (zero-add (cond (p b) 1 0))
