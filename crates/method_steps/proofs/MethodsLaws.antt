-- Methods of a document beside the values that they are the view of, and faults along them.
use Rattle.std.proofs.Common.{◌≡◌, ℕ, ◌+◌, ◌<◌, List, [], ◌∷◌, length, get_or, take, drop, map, refl, ap, sym, ◌∙◌, Some, None}
use Rattle.toml.specs.declared.value.Value.{Value}
use Rattle.toml.specs.View.{view, items_view}
use Rattle.method_steps.specs.Judged.{method_fault, methods_fault}
use Rattle.method_steps.specs.Made.{method_from, methods_from}
use Rattle.table_reading.proofs.ItemsLaws.{items_take, items_drop}
use Rattle.table_reading.specs.declared.fault.TableFault.{TableFault}
use Rattle.table_reading.specs.declared.version.Version.{Version}
use Rattle.table_reading.specs.Judged.{first_of}

pub methods_from-view : (vs : List Value) → map (λ v. method_from (view v)) vs ≡ methods_from (items_view vs)
methods_from-view [] = refl
methods_from-view (v ∷ vs) = ap (λ ms. method_from (view v) ∷ ms) (methods_from-view vs)

pub methods_fault-step : (version : Version) (vs : List Value) (i : ℕ) (v : Value) → i < length vs → get_or vs i v ≡ v
    → methods_fault version (items_view (take i vs)) (items_view (drop i vs))
    ≡ first_of (method_fault version (items_view (take i vs)) (view v)) (methods_fault version (items_view (take (i + 1) vs)) (items_view (drop (i + 1) vs)))
methods_fault-step version vs i v within here = rw (items_drop vs i v within here, items_take vs i v within here)

pub methods_fault-next : (version : Version) (vs : List Value) (i : ℕ) (v : Value) → i < length vs → v ≡ get_or vs i v → method_fault version (items_view (take i vs)) (view v) ≡ None
    → methods_fault version (items_view (take i vs)) (items_view (drop i vs)) ≡ methods_fault version (items_view (take (i + 1) vs)) (items_view (drop (i + 1) vs))
methods_fault-next version vs i v within here none =
    methods_fault-step version vs i v within (sym here) ∙ ap (λ x. first_of x (methods_fault version (items_view (take (i + 1) vs)) (items_view (drop (i + 1) vs)))) none

pub methods_fault-found : (version : Version) (vs : List Value) (i : ℕ) (v : Value) (f : TableFault) → i < length vs → v ≡ get_or vs i v → method_fault version (items_view (take i vs)) (view v) ≡ Some f
    → methods_fault version (items_view (take i vs)) (items_view (drop i vs)) ≡ Some f
methods_fault-found version vs i v f within here found =
    methods_fault-step version vs i v within (sym here) ∙ ap (λ x. first_of x (methods_fault version (items_view (take (i + 1) vs)) (items_view (drop (i + 1) vs)))) found
