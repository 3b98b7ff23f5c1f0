-- What a text shows to be wrong, each fault whatever else is wrong, and the order in which faults are looked for.
use Rattle.std.specs.Prelude.{◌≡◌, ℕ, ◌+◌, ◌≤◌, List, codes, true, false, not, ◌||◌, nat_lt, Option, Some, None, is_some, ◌⊎◌}
use Rattle.std.specs.Option.{option_map_or}
use Rattle.toml.specs.Data.{Data, table, push_item, Items, no_items, item, Members}
use Rattle.table_reading.specs.declared.fault.FaultKind.{FaultKind}
use Rattle.table_reading.specs.declared.fault.FaultKind.TheVariants as fault
use Rattle.table_reading.specs.declared.fault.TableFault.{TableFault}
use Rattle.method_templates.specs.declared.limits.TheConstants.{MOST_METHODS, MOST_STEPS}
use Rattle.table_reading.specs.declared.kind.Kind.{Kind}
use Rattle.table_reading.specs.declared.version.Version.{Version}
use Rattle.table_reading.specs.Fault.{in_document, in_method, in_step}
use Rattle.table_reading.specs.Fields.{kind_of, is_kind_of, step_in}
use Rattle.table_reading.specs.Judged.{has_free_code}
use Rattle.method_steps.specs.Judged.{has_method_fields, is_used, document_fields_hold, list_at, word_at}
use Rattle.table_reading.specs.Limits.{items_len, is_step_within}
use Rattle.method_steps.specs.Made.{document_of}
use Rattle.method_templates.specs.Names.{is_method_name}
use Rattle.table_reading.specs.References.{refers_back}
use Rattle.method_templates.specs.Steps.{Step}
use Rattle.table_reading.specs.Version.{version_of}

-- ---- the order

-- kinds of faults at one place, in the order in which they are looked for
abbrev pub rank : FaultKind → ℕ
rank fault.NotToml = 0
rank fault.Version = 1
rank fault.Step = 2
rank fault.Field = 3
rank fault.Name = 4
rank fault.Limit = 5
rank fault.Register = 6
rank fault.Code = 7
rank fault.Memory = 8

-- The one comes no later than the other: by its method, then by its step, then by its kind. The opening, whose method is 0, comes before the
-- methods, and what stands outside a step, whose step is 0, before the steps.
pub record NoLater (one other : TableFault) : Type 0 where
  pub method : one.method ≤ other.method
  pub step : one.method ≡ other.method → one.step ≤ other.step
  pub kind : one.method ≡ other.method → one.step ≡ other.step → rank one.kind ≤ rank other.kind

-- ---- what is wrong

-- with what a step says, or none, after the steps before it
abbrev pub SaidShows : Items → Option Step → FaultKind → Type 0
SaidShows earlier said f =
    ((f ≡ fault.Field) × (is_some said ≡ false))
    ⊎ (((f ≡ fault.Limit) × (option_map_or is_step_within said true ≡ false))
    ⊎ (((f ≡ fault.Register) × (option_map_or (refers_back earlier) said true ≡ false))
    ⊎ ((f ≡ fault.Code) × (option_map_or has_free_code said true ≡ false))))

-- with a step that names this kind, or none
abbrev pub KindShows : Version → Items → Members → Option Kind → FaultKind → Type 0
KindShows v earlier ms None f = f ≡ fault.Step
KindShows v earlier ms (Some kind) f = ((f ≡ fault.Step) × (is_kind_of v kind ≡ false)) ⊎ SaidShows earlier (step_in kind ms) f

-- with an item of a list of steps
abbrev pub StepShows : Version → Items → Data → FaultKind → Type 0
StepShows v earlier (table ms) f = KindShows v earlier ms (kind_of ms) f
StepShows v earlier _ f = f ≡ fault.Field

-- with one of the items, after those before it
abbrev pub StepsShow : Version → ℕ → Items → Items → TableFault → Type 0
StepsShow v method earlier no_items f = ⊥
StepsShow v method earlier (item d ds) f =
    ((kind : FaultKind) × (f ≡ in_step method (items_len earlier + 1) kind) × StepShows v earlier d kind)
    ⊎ StepsShow v method (push_item earlier d) ds f

-- with the method of that number, after the methods before it
abbrev pub TableShows : Version → ℕ → Items → Members → TableFault → Type 0
TableShows v number earlier ms f =
    ((f ≡ in_method number fault.Field) × (has_method_fields ms ≡ false))
    ⊎ (((f ≡ in_method number fault.Name) × (not (is_method_name (word_at (codes "name") ms)) || is_used (word_at (codes "name") ms) earlier ≡ true))
    ⊎ (((f ≡ in_method number fault.Limit) × (nat_lt MOST_STEPS (items_len (list_at (codes "step") ms)) ≡ true))
    ⊎ StepsShow v number no_items (list_at (codes "step") ms) f))

-- with an item of the list of methods
abbrev pub MethodShows : Version → Items → Data → TableFault → Type 0
MethodShows v earlier (table ms) f = TableShows v (items_len earlier + 1) earlier ms f
MethodShows v earlier _ f = f ≡ in_method (items_len earlier + 1) fault.Field

-- with one of the items, after those before it
abbrev pub MethodsShow : Version → Items → Items → TableFault → Type 0
MethodsShow v earlier no_items f = ⊥
MethodsShow v earlier (item d ds) f = MethodShows v earlier d f ⊎ MethodsShow v (push_item earlier d) ds f

-- with a document of this version, or of none
abbrev pub VersionShows : Option Version → Members → TableFault → Type 0
VersionShows None top f = f ≡ in_document fault.Version
VersionShows (Some v) top f =
    ((f ≡ in_document fault.Field) × (document_fields_hold v top ≡ false))
    ⊎ (((f ≡ in_document fault.Limit) × (nat_lt MOST_METHODS (items_len (list_at (codes "method") top)) || nat_lt MOST_STEPS (items_len (list_at (codes "opening") top)) ≡ true))
    ⊎ (StepsShow v 0 no_items (list_at (codes "opening") top) f
    ⊎ MethodsShow v no_items (list_at (codes "method") top) f))

-- with bytes that are this document, or none
abbrev pub DocumentShows : Option Members → TableFault → Type 0
DocumentShows None f = f ≡ in_document fault.NotToml
DocumentShows (Some top) f = VersionShows (version_of top) top f

-- the text shows the fault
abbrev pub Shows : List ℕ → TableFault → Type 0
Shows bytes f = DocumentShows (document_of bytes) f

-- the text shows it, and none that comes before it
pub record ShowsFirst (bytes : List ℕ) (f : TableFault) : Type 0 where
  pub shown : Shows bytes f
  pub first : (other : TableFault) → Shows bytes other → NoLater f other
