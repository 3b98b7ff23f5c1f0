-- What is made of each value of a list.
use Rattle.std.proofs.Common.{◌≡◌, ℕ, ◌+◌, ◌<◌, List, [], ◌∷◌, ◌++◌, length, get_or, take, map, refl, sym, ap, ◌∙◌}
use Rattle.std.proofs.lemmas.List.{take_more, map-append}
use Rattle.toml.specs.declared.value.Value.{Value}
use Rattle.toml.specs.View.{view, items_view}
use Rattle.table_reading.specs.Made.{step_from, steps_from}

pub steps_from-view : (vs : List Value) → map (λ v. step_from (view v)) vs ≡ steps_from (items_view vs)
steps_from-view [] = refl
steps_from-view (v ∷ vs) = ap (λ ss. step_from (view v) ∷ ss) (steps_from-view vs)

-- what is made so far, and of one value more
pub made_last : {A B : Type 0} (f : A → B) (vs : List A) (i : ℕ) (v : A) (made : List B) (b : B) → i < length vs → v ≡ get_or vs i v → made ≡ map f (take i vs) → b ≡ f v
    → made ++ b ∷ [] ≡ map f (take (i + 1) vs)
made_last f vs i v made b within here before last =
    let all : map f (take (i + 1) vs) ≡ map f (take i vs) ++ f v ∷ [] = ap (map f) (take_more vs i v within ∙ ap (λ x. take i vs ++ x ∷ []) (sym here)) ∙ map-append f (take i vs) (v ∷ []) in
    rw (before, last) (sym all)
