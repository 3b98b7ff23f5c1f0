-- Items of a document beside the values that they are the view of, and faults along them.
use Rattle.std.proofs.Common.{◌≡◌, ℕ, ◌+◌, ◌<◌, List, [], ◌∷◌, length, get_or, take, drop, refl, ap, sym, ◌∙◌, arith, Some, None}
use Rattle.std.proofs.lemmas.List.{take_more}
use Rattle.toml.specs.Data.{item, push_item}
use Rattle.table_reading.specs.declared.fault.TableFault.{TableFault}
use Rattle.table_reading.specs.declared.version.Version.{Version}
use Rattle.toml.specs.declared.value.Value.{Value}
use Rattle.toml.specs.View.{view, items_view}
use Rattle.toml.proofs.Views.{items_view-drop, items_view-push}
use Rattle.table_reading.specs.Judged.{first_of, at_step, step_fault, steps_fault}
use Rattle.table_reading.specs.Limits.{items_len}

pub items_len-view : (vs : List Value) → items_len (items_view vs) ≡ length vs
items_len-view [] = refl
items_len-view (v ∷ vs) = omega (arith, items_len-view vs)

-- the item at a place, and those before and after it
pub items_take : (vs : List Value) (i : ℕ) (v : Value) → i < length vs → get_or vs i v ≡ v → items_view (take (i + 1) vs) ≡ push_item (items_view (take i vs)) (view v)
items_take vs i v within here = rw (take_more vs i v within, here) (items_view-push (take i vs) v)

pub items_drop : (vs : List Value) (i : ℕ) (v : Value) → i < length vs → get_or vs i v ≡ v → items_view (drop i vs) ≡ item (view v) (items_view (drop (i + 1) vs))
items_drop vs i v within here = items_view-drop vs i v within ∙ rw here refl

pub steps_fault-step : (version : Version) (method : ℕ) (vs : List Value) (i : ℕ) (v : Value) → i < length vs → get_or vs i v ≡ v
    → steps_fault version method (items_view (take i vs)) (items_view (drop i vs))
    ≡ first_of (at_step method (items_len (items_view (take i vs))) (step_fault version (items_view (take i vs)) (view v))) (steps_fault version method (items_view (take (i + 1) vs)) (items_view (drop (i + 1) vs)))
steps_fault-step version method vs i v within here = rw (items_drop vs i v within here, items_take vs i v within here)

-- where the item at a place has no fault, the first one is that of those after it
pub steps_fault-next : (version : Version) (method : ℕ) (vs : List Value) (i : ℕ) (v : Value) → i < length vs → v ≡ get_or vs i v → at_step method (items_len (items_view (take i vs))) (step_fault version (items_view (take i vs)) (view v)) ≡ None
    → steps_fault version method (items_view (take i vs)) (items_view (drop i vs)) ≡ steps_fault version method (items_view (take (i + 1) vs)) (items_view (drop (i + 1) vs))
steps_fault-next version method vs i v within here none =
    steps_fault-step version method vs i v within (sym here) ∙ ap (λ x. first_of x (steps_fault version method (items_view (take (i + 1) vs)) (items_view (drop (i + 1) vs)))) none

-- where it has one, that is the first
pub steps_fault-found : (version : Version) (method : ℕ) (vs : List Value) (i : ℕ) (v : Value) (f : TableFault) → i < length vs → v ≡ get_or vs i v → at_step method (items_len (items_view (take i vs))) (step_fault version (items_view (take i vs)) (view v)) ≡ Some f
    → steps_fault version method (items_view (take i vs)) (items_view (drop i vs)) ≡ Some f
steps_fault-found version method vs i v f within here found =
    steps_fault-step version method vs i v within (sym here) ∙ ap (λ x. first_of x (steps_fault version method (items_view (take (i + 1) vs)) (items_view (drop (i + 1) vs)))) found
