-- The places of names as methods are added.
use Rattle.std.proofs.Common.{◌≡◌, ℕ, ◌+◌, ◌<◌, List, [], ◌∷◌, ◌++◌, length, Bool, true, false, cond, Option, Some, None, is_some, IfSome, refl, sym, ap, ◌∙◌, arith, true≢false}
use Rattle.std.proofs.lemmas.Bool.{cases_Bool}
use Rattle.std.proofs.lemmas.Slice.Eq.{bytes_eq-Decides}
use Rattle.std.proofs.Common.{inl, inr}
use Rattle.std.specs.List.{position_from}
use Rattle.std.specs.Str.{bytes_eq}
use Rattle.method_steps.specs.Steps.{NamedSteps, place_of}

-- the first, or else the second
abbrev pub either : Option ℕ → Option ℕ → Option ℕ
either (Some k) other = Some k
either None other = other

position_from-last : (test : NamedSteps → Bool) (k : ℕ) (ms : List NamedSteps) (m : NamedSteps)
    → position_from test k (ms ++ m ∷ []) ≡ either (position_from test k ms) (cond (test m) (Some (k + length ms)) None)
position_from-last test k [] m =
    let start : k + 0 ≡ k = omega arith in
    rw start refl
position_from-last test k (n ∷ ms) m =
    let next : (k + 1) + length ms ≡ k + length (n ∷ ms) = omega arith in
    elim (cases_Bool (test n)) [
      | inl same_so ↦ rw same_so refl
      | inr other_so ↦ rw other_so (position_from-last test (k + 1) ms m ∙ ap (λ j. either (position_from test (k + 1) ms) (cond (test m) (Some j) None)) next)
    ]

place_of-last : (name : List ℕ) (ms : List NamedSteps) (m : NamedSteps) → place_of name (ms ++ m ∷ []) ≡ either (place_of name ms) (cond (bytes_eq m.name name) (Some (length ms)) None)
place_of-last name ms m =
    let start : 0 + length ms ≡ length ms = omega arith in
    position_from-last (λ n. bytes_eq n.name name) 0 ms m ∙ ap (λ j. either (place_of name ms) (cond (bytes_eq m.name name) (Some j) None)) start

-- a method whose name was not there has the last place
pub placed_new : (name : List ℕ) (ms : List NamedSteps) (m : NamedSteps) → place_of m.name ms ≡ None
    → cond (bytes_eq m.name name) (Some (length ms)) (place_of name ms) ≡ place_of name (ms ++ m ∷ [])
placed_new name ms m new =
    elim (cases_Bool (bytes_eq m.name name)) [
      | inl same_so ↦ let same : m.name ≡ name = (bytes_eq-Decides m.name name).0 same_so in
          let none : place_of name ms ≡ None = ap (λ n. place_of n ms) (sym same) ∙ new in
          rw same_so (sym (place_of-last name ms m ∙ rw (same_so, none) refl))
      | inr other_so ↦ rw other_so (sym (place_of-last name ms m ∙ rw other_so (either_none (place_of name ms))))
    ]
  where
    either_none : (o : Option ℕ) → either o None ≡ o
    either_none None = refl
    either_none (Some k) = refl

-- one whose name was there changes no place
pub placed_before : (name : List ℕ) (ms : List NamedSteps) (m : NamedSteps) → is_some (place_of m.name ms) ≡ true → place_of name ms ≡ place_of name (ms ++ m ∷ [])
placed_before name ms m there =
    elim (cases_Bool (bytes_eq m.name name)) [
      | inl same_so ↦ let same : m.name ≡ name = (bytes_eq-Decides m.name name).0 same_so in
          let some : is_some (place_of name ms) ≡ true = ap (λ n. is_some (place_of n ms)) (sym same) ∙ there in
          sym (place_of-last name ms m ∙ either_some (place_of name ms) _ some)
      | inr other_so ↦ sym (place_of-last name ms m ∙ rw other_so (either_none (place_of name ms)))
    ]
  where
    either_none : (o : Option ℕ) → either o None ≡ o
    either_none None = refl
    either_none (Some k) = refl

    either_some : (o other : Option ℕ) → is_some o ≡ true → either o other ≡ o
    either_some None other h = absurd (true≢false (sym h))
    either_some (Some k) other h = refl

-- what a look-up finds after the place of a new name was put in
pub placed_after : (name bs : List ℕ) (ms : List NamedSteps) (m : NamedSteps) (i : ℕ) (old new : Option ℕ) → bs ≡ m.name → i ≡ length ms → old ≡ place_of name ms → place_of m.name ms ≡ None
    → new ≡ cond (bytes_eq bs name) (Some i) old → new ≡ place_of name (ms ++ m ∷ [])
placed_after name bs ms m i old new named last before absent after = after ∙ rw (named, last, before) (placed_new name ms m absent)

pub none_unless : (o : Option ℕ) → is_some o ≡ false → o ≡ None
none_unless None h = refl
none_unless (Some k) h = absurd (true≢false h)

-- what a search from k finds lies before the end
position_from-below : (test : NamedSteps → Bool) (k : ℕ) (ms : List NamedSteps) (end : ℕ) → end ≡ k + length ms → IfSome (position_from test k ms) (λ j. j < end)
position_from-below test k [] end same = tt
position_from-below test k (m ∷ ms) end same =
    elim (cases_Bool (test m)) [
      | inl same_so ↦ rw same_so (omega arith)
      | inr other_so ↦ rw other_so (position_from-below test (k + 1) ms end (omega arith))
    ]

-- a method that is found is one of them
pub place_of-below : (name : List ℕ) (ms : List NamedSteps) → IfSome (place_of name ms) (λ place. place < length ms)
place_of-below name ms = position_from-below (λ m. bytes_eq m.name name) 0 ms (length ms) (omega arith)
