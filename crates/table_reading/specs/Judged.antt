-- The first fault of a list of steps, in the order in which faults are looked for.
use Rattle.std.specs.Prelude.{ℕ, ℤ, negsuc, ◌+◌, Bool, true, not, ◌||◌, int_lt, Option, Some, None, if◌then◌else◌}
use Rattle.toml.specs.Data.{Data, table, push_item, Items, no_items, item, Members}
use Rattle.method_templates.specs.declared.step.Step.TheVariants as step
use Rattle.method_templates.specs.Steps.{Step}
use Rattle.table_reading.specs.declared.fault.FaultKind.{FaultKind}
use Rattle.table_reading.specs.declared.fault.FaultKind.TheVariants as fault
use Rattle.table_reading.specs.declared.fault.TableFault.{TableFault}
use Rattle.table_reading.specs.declared.kind.Kind.{Kind}
use Rattle.table_reading.specs.declared.version.Version.{Version}
use Rattle.table_reading.specs.Fault.{in_step}
use Rattle.table_reading.specs.Fields.{kind_of, is_kind_of, step_in}
use Rattle.table_reading.specs.Limits.{items_len, is_step_within}
use Rattle.table_reading.specs.References.{refers_back}

-- the fault, or else the later one
abbrev pub first_of : Option TableFault → Option TableFault → Option TableFault
first_of (Some f) later = Some f
first_of None later = later

-- a code outside -32768 to -32100, which JSON-RPC 2.0, section 5.1, reserves; `negsuc n` is -(n + 1)
abbrev pub is_free : ℤ → Bool
is_free z = int_lt z (negsuc 32767) || int_lt (negsuc 32099) z

abbrev pub has_free_code : Step → Bool
has_free_code (step.Fail code message) = is_free code
has_free_code _ = true

-- of what a step says, after the steps before it
abbrev pub last_fault : Items → Step → Option FaultKind
last_fault earlier s =
    if not (refers_back earlier s) then Some fault.Register
    else if not (has_free_code s) then Some fault.Code
    else None

abbrev pub fault_of_said : Items → Option Step → Option FaultKind
fault_of_said earlier None = Some fault.Field
fault_of_said earlier (Some s) = if not (is_step_within s) then Some fault.Limit else last_fault earlier s

abbrev pub fault_of_kind : Version → Items → Members → Option Kind → Option FaultKind
fault_of_kind v earlier ms None = Some fault.Step
fault_of_kind v earlier ms (Some kind) = if not (is_kind_of v kind) then Some fault.Step else fault_of_said earlier (step_in kind ms)

abbrev pub step_fault : Version → Items → Data → Option FaultKind
step_fault v earlier (table ms) = fault_of_kind v earlier ms (kind_of ms)
step_fault v earlier _ = Some fault.Field

abbrev pub at_step : ℕ → ℕ → Option FaultKind → Option TableFault
at_step method place None = None
at_step method place (Some kind) = Some (in_step method (place + 1) kind)

-- of the steps of a method, or of the opening as method 0, each judged after those before it
abbrev pub steps_fault : Version → ℕ → Items → Items → Option TableFault
steps_fault v method earlier no_items = None
steps_fault v method earlier (item d ds) =
    first_of (at_step method (items_len earlier) (step_fault v earlier d)) (steps_fault v method (push_item earlier d) ds)
