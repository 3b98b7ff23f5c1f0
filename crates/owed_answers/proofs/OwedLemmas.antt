-- The state of the owed answers after a change.
use Rattle.std.proofs.Common.{◌≡◌, ℕ, ◌==◌, Bool, true, false, cond, List, [], ◌∷◌, refl, ap, ◌∙◌}
use Rattle.number_windows.specs.Numbered.{changed_at}
use Rattle.owed_answers.specs.Owed.{OwedState, OwedUnit}

-- what a function gives of what the fields are seen as, it gives of the state
pub through : {A : Type 0} (change : A → A) (new inside state : A) → inside ≡ state → new ≡ change inside → new ≡ change state
through change new inside state seen is = is ∙ ap change seen

abbrev pub state_of : ℕ → List (ℕ × OwedUnit) → OwedState
state_of places owed = record { places = places; owed = owed }

pub same_owed : (places : ℕ) (es fs : List (ℕ × OwedUnit)) → es ≡ fs → state_of places es ≡ state_of places fs
same_owed places es fs is = ap (λ owed. state_of places owed) is

same_unit : (b : Bool) (u : OwedUnit) → cond b u u ≡ u
same_unit true u = refl
same_unit false u = refl

-- a unit that stays as it was
pub kept : (place : ℕ) (owed : List (ℕ × OwedUnit)) → changed_at place (λ u. u) owed ≡ owed
kept place [] = refl
kept place (e ∷ es) = ap (λ u. (e.0, u) ∷ changed_at place (λ v. v) es) (same_unit (place == e.0) e.1) ∙ ap (λ t. e ∷ t) (kept place es)
