-- What a table holds.
use Rattle.std.specs.Prelude.{◌≡◌, ℕ, ◌≤◌, List, [], length, map, All, Option, option_map, unwrap_or, String, Vec}
use Rattle.std.specs.declared.alloc.Global.{Global}
use Rattle.std.specs.declared.sync.Arc.{Arc}
use Rattle.std.specs.BTreeMap.{BTreeMap, get_by_text}
use Rattle.method_templates.specs.declared.limits.TheConstants.{MOST_METHODS}
use Rattle.method_steps.specs.declared.table.Method.{Method}
use Rattle.method_templates.specs.Steps.{Step, AreWithinLimits, calls_of}
use Rattle.method_steps.specs.Steps.{NamedSteps, MethodTable, place_of, shared_steps, unless_empty}

-- what a method is seen as
abbrev pub named_steps : Method → NamedSteps
named_steps m = record { name = m.name; steps = shared_steps m.steps }

-- the number of its calls is that of its steps
abbrev pub IsCounted : Method → Type 0
IsCounted m = m.calls ≡ calls_of (shared_steps m.steps)

-- the map finds each name's place, and the methods keep their limits
pub record IsIndexed (methods : List Method) (places : BTreeMap (String Global) ℕ) : Type 0 where
  pub few : length methods ≤ MOST_METHODS
  pub counted : All IsCounted methods
  pub within : All (λ m. AreWithinLimits m.steps) (map named_steps methods)
  pub found : (name : List ℕ) → get_by_text places name ≡ place_of name (map named_steps methods)

-- the opening's steps; none where there is no opening
abbrev pub opening_seen : Option (Arc (Vec Step Global) Global) → List Step
opening_seen opening = unwrap_or (option_map shared_steps opening) []

-- what a table is seen as
abbrev pub table_seen : Option (Arc (Vec Step Global) Global) → List Method → MethodTable
table_seen opening methods = record { opening = opening_seen opening; methods = map named_steps methods }

-- an opening that is there has steps, which keep their limits
pub record IsOpening (opening : Option (Arc (Vec Step Global) Global)) : Type 0 where
  pub shared : option_map shared_steps opening ≡ unless_empty (opening_seen opening)
  pub within : AreWithinLimits (opening_seen opening)
