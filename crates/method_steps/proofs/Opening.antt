-- The opening of a table.
use Rattle.std.proofs.Common.{◌≡◌, ◌==◌, List, [], ◌∷◌, length, false, true≢false, Option, Some, option_map, unwrap_or, Vec, refl, sym, ap, ◌∙◌}
use Rattle.std.specs.declared.alloc.Global.{Global}
use Rattle.std.specs.declared.sync.Arc.{Arc}
use Rattle.toml.specs.declared.value.Value.{Value}
use Rattle.toml.specs.View.{items_view}
use Rattle.table_reading.specs.Made.{steps_from}
use Rattle.method_steps.specs.Inner.Methods.{opening_seen, IsOpening}
use Rattle.method_templates.specs.Steps.{Step, AreWithinLimits}
use Rattle.method_steps.specs.Steps.{shared_steps, unless_empty}

steps_back : (steps : List Step) → unwrap_or (unless_empty steps) [] ≡ steps
steps_back [] = refl
steps_back (s ∷ ss) = refl

-- an opening that is there where there are steps is seen as these
pub opening_seen-shared : (opening : Option (Arc (Vec Step Global) Global)) (steps : List Step) → option_map shared_steps opening ≡ unless_empty steps → opening_seen opening ≡ steps
opening_seen-shared opening steps shared = ap (λ o. unwrap_or o []) shared ∙ steps_back steps

pub opening_of_steps : (opening : Option (Arc (Vec Step Global) Global)) (steps : List Step) → option_map shared_steps opening ≡ unless_empty steps → AreWithinLimits steps → IsOpening opening
opening_of_steps opening steps shared within =
    let same : opening_seen opening ≡ steps = opening_seen-shared opening steps shared in
    record {
      shared = shared ∙ ap unless_empty (sym same);
      within = rw same within;
    }

-- the steps of items that are there
pub some_steps : (vs : List Value) → (length vs == 0) ≡ false → unless_empty (steps_from (items_view vs)) ≡ Some (steps_from (items_view vs))
some_steps [] h = absurd (true≢false h)
some_steps (v ∷ vs) h = refl
