-- The places of all numbers and those of the window.
use Rattle.std.proofs.Common.{◌≡◌, ℕ, suc, zero, ◌+◌, ◌-◌, ◌≤◌, ◌<◌, ◌==◌, IsTrue, rules, true≢false, List, [], ◌∷◌, length, take, set, get_or, replicate, refl, ap, sym, ◌∙◌, arith, Bool, true, false, Option, Some, None, is_some, is_none, IfSome, MatchOption, Bor}
use Rattle.std.proofs.lemmas.List.{get_or-append_right, get_or_read, set-get_or, set-append_right, length-append, length-replicate}
use Rattle.number_set.specs.Dense.{place_at, all_places, begins_here}

module _ {P : Type 0} (gone : P) where
  pub length-all : (first : ℕ) (window : List P) → length (all_places gone first window) ≡ first + length window
  length-all first window = simp (length-append, length-replicate)

  pub gone-in-empty : (first n : ℕ) → place_at gone (all_places gone first []) n ≡ gone
  gone-in-empty zero n = refl
  gone-in-empty (suc first) zero = refl
  gone-in-empty (suc first) (suc n) = gone-in-empty first n

  pub gone-before : (first n : ℕ) (window : List P) → n < first → place_at gone (all_places gone first window) n ≡ gone
  gone-before zero n window below = absurd (omega arith)
  gone-before (suc first) zero window below = refl
  gone-before (suc first) (suc n) window below = gone-before first n window (omega arith)

  pub gone-behind : (first n : ℕ) (window : List P) → first + length window ≤ n → place_at gone (all_places gone first window) n ≡ gone
  gone-behind zero n [] behind = refl
  gone-behind zero zero (x ∷ xs) behind = absurd (omega arith)
  gone-behind zero (suc n) (x ∷ xs) behind = gone-behind zero n xs (omega arith)
  gone-behind (suc first) zero window behind = absurd (omega arith)
  gone-behind (suc first) (suc n) window behind = gone-behind first n window (omega arith)

  pub place-inside : (first n : ℕ) (window : List P) → first ≤ n → place_at gone (all_places gone first window) n ≡ place_at gone window (n - first)
  place-inside first n window reached = get_or-append_right (replicate first gone) window first n gone (length-replicate first gone) reached

  pub place-first : (first : ℕ) (place : P) (window : List P) → place_at gone (all_places gone first (place ∷ window)) first ≡ place
  place-first zero place window = refl
  place-first (suc first) place window = place-first first place window

  pub take-before : (first len : ℕ) (window : List P) → len ≤ first → take len (all_places gone first window) ≡ all_places gone len []
  take-before first zero window below = refl
  take-before zero (suc len) window below = absurd (omega arith)
  take-before (suc first) (suc len) window below = ap (λ s. gone ∷ s) (take-before first len window (omega arith))

  pub take-behind : (first len : ℕ) (window : List P) → first ≤ len → take len (all_places gone first window) ≡ all_places gone first (take (len - first) window)
  take-behind zero len window reached = let same : len - 0 ≡ len = omega arith in rw same refl
  take-behind (suc first) zero window reached = absurd (omega arith)
  take-behind (suc first) (suc len) window reached =
      let same : suc len - suc first ≡ len - first = omega arith in
      rw same (ap (λ s. gone ∷ s) (take-behind first len window (omega arith)))

  pub set-inside : (first n : ℕ) (window : List P) (place : P) → first ≤ n
      → set (all_places gone first window) n place ≡ all_places gone first (set window (n - first) place)
  set-inside first n window place reached = set-append_right (replicate first gone) window first n place (length-replicate first gone) reached

  -- outside the window all is gone
  pub gone-outside : (first number : ℕ) (window : List P) → ((first ≤ number) × (number < first + length window) → ⊥)
      → place_at gone (all_places gone first window) number ≡ gone
  gone-outside zero number [] outside = refl
  gone-outside zero zero (x ∷ xs) outside = absurd (outside (omega arith, omega arith))
  gone-outside zero (suc number) (x ∷ xs) outside = gone-outside zero number xs (λ within. outside (omega arith, omega (arith, within.1)))
  gone-outside (suc first) zero window outside = refl
  gone-outside (suc first) (suc number) window outside = gone-outside first number window (λ within. outside (omega (arith, within.0), omega (arith, within.1)))

  pub set-outside : (first number : ℕ) (window places : List P) → ((first ≤ number) × (number < first + length window) → ⊥)
      → all_places gone first window ≡ places → places ≡ set places number gone
  set-outside first number window places outside seen =
      let here : place_at gone places number ≡ gone = ap (λ ps. place_at gone ps number) (sym seen) ∙ gone-outside first number window outside in
      sym (ap (set places number) (sym here) ∙ set-get_or places number gone)

  -- a change in the window, as one of all numbers
  pub place-changed : (first number i : ℕ) (items : List P) (place : P) (places : List P)
      → first ≤ number → i ≡ number - first → all_places gone first items ≡ places
      → all_places gone first (set items i place) ≡ set places number place
  place-changed first number i items place places reached here seen =
      ap (λ k. all_places gone first (set items k place)) here
      ∙ sym (set-inside first number items place reached)
      ∙ ap (λ s. set s number place) seen

  pub empty-where-gone : (is_gone : P → Bool) → is_gone gone ≡ true → (first : ℕ) (window : List P) → begins_here is_gone window ≡ true
      → ((n : ℕ) → place_at gone (all_places gone first window) n ≡ gone) → window ≡ []
  empty-where-gone is_gone law first [] here all = refl
  empty-where-gone is_gone law first (place ∷ window) here all =
      let is : place ≡ gone = sym (place-first first place window) ∙ all first in
      absurd (cc (here, ap is_gone is, law))

-- what stands in a place that isn't gone may change to another that isn't
pub begins-changed : {P : Type 0} (is_gone : P → Bool) (window : List P) (i : ℕ) (place : P) → is_gone place ≡ false → begins_here is_gone window ≡ true
    → begins_here is_gone (set window i place) ≡ true
begins-changed is_gone [] i place here begins = refl
begins-changed is_gone (x ∷ xs) zero place here begins = rw here refl
begins-changed is_gone (x ∷ xs) (suc i) place here begins = begins

suc_not_zero : (n : ℕ) → (suc n == 0) ≡ false
suc_not_zero n = search rules

pub empty-tells : {P : Type 0} (is_empty : Bool) (items : List P) (len : ℕ) → length items ≡ len → is_empty ≡ (len == 0)
    → (IsTrue is_empty → items ≡ []) × (items ≡ [] → IsTrue is_empty)
empty-tells is_empty [] len long is = (λ empty. refl, λ none. is ∙ rw (← long) refl)
empty-tells is_empty (x ∷ xs) len long is =
    let some : is_empty ≡ false = is ∙ rw (← long) (suc_not_zero (length xs)) in
    (λ empty. absurd (true≢false (sym empty ∙ some)), λ none. cc)

-- a number that isn't gone stands in the window
pub record IsWithin (first number len : ℕ) : Type 0 where
  pub reached : first ≤ number
  pub below : number < first + len

pub some-within : {T : Type 0} (first number : ℕ) (window : List (Option T)) → is_some (place_at None (all_places None first window) number) ≡ true
    → IsWithin first number (length window)
some-within zero number [] some = cc
some-within zero zero (x ∷ xs) some = record { reached = omega arith; below = omega arith }
some-within zero (suc number) (x ∷ xs) some =
    let rest = some-within zero number xs some in
    record { reached = omega arith; below = omega (arith, rest.below) }
some-within (suc first) zero window some = cc
some-within (suc first) (suc number) window some =
    let rest = some-within first number window some in
    record { reached = omega (arith, rest.reached); below = omega (arith, rest.below) }

some-here : {T : Type 0} (place other : Option T) → place ≡ other → is_none other ≡ false → is_some place ≡ true
some-here None None is here = cc
some-here (Some x) other is here = refl
some-here None (Some x) is here = cc

-- what was found stands there
pub found-some : {T : Type 0} (found : Option (Bor (Option T))) (place : Option T) → is_some found ≡ true
    → MatchOption found (place ≡ None) (λ p. place ≡ p.now) → IfSome found (λ p. is_none p.now ≡ false) → is_some place ≡ true
found-some None place some is here = cc
found-some (Some p) place some is here = some-here place p.now is here
