-- An entry that is written in its place, and the first that goes.
use Rattle.std.proofs.Common.{◌≡◌, ℕ, List, [], ◌∷◌, Some, None, refl, sym, ap, ◌∙◌}
use Rattle.std.specs.Ordering.{nat_cmp}
use Rattle.std.specs.Map.{set_value}
use Rattle.std.specs.BTreeMap.{is_at}
use Rattle.number_windows.specs.Numbered.{at, without, changed_at, first_number, Ascending}
use Rattle.number_windows.proofs.Numbered.{changed, without_first}

pub put : {X : Type 0} (n : ℕ) (f : X → X) (v w : X) (es : List (ℕ × X)) → Ascending es → at n es ≡ Some v → w ≡ f v → changed_at n (λ _. w) es ≡ changed_at n f es
put n f v w es order there is =
    sym (changed n (λ _. w) v es order there) ∙ ap (λ x. set_value (is_at (nat_cmp n)) es x) is ∙ changed n f v es order there

-- the entry with the least number goes
pub first_goes : {X : Type 0} (n : ℕ) (es : List (ℕ × X)) → Ascending es → Some n ≡ first_number es → (x : X) × (es ≡ (n, x) ∷ without n es)
first_goes n [] order is = cc
first_goes n (e ∷ es) order is =
    let same : n ≡ e.0 = cc in
    let here : (n, e.1) ≡ e = ap (λ m. (m, e.1)) same in
    (e.1, without_first n e.1 (e ∷ es) order (ap Some (sym here)))

pub none_first : {X : Type 0} (es : List (ℕ × X)) → None ≡ first_number es → es ≡ []
none_first [] is = refl
none_first (e ∷ es) is = cc
