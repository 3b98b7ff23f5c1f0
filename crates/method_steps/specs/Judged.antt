-- The first fault of a document, in the order in which faults are looked for.
use Rattle.std.specs.Prelude.{ℕ, ◌+◌, List, [], codes, Bool, not, ◌&&◌, ◌||◌, nat_lt, Option, Some, None, is_some, unwrap_or, if◌then◌else◌}
use Rattle.std.specs.Option.{option_map_or}
use Rattle.toml.specs.Data.{Data, table, push_item, Items, no_items, item, Members}
use Rattle.method_templates.specs.declared.limits.TheConstants.{MOST_METHODS, MOST_STEPS}
use Rattle.method_templates.specs.Names.{is_method_name}
use Rattle.table_reading.specs.declared.entry.Entry.TheVariants as entry
use Rattle.table_reading.specs.declared.fault.FaultKind.TheVariants as fault
use Rattle.table_reading.specs.declared.fault.TableFault.{TableFault}
use Rattle.table_reading.specs.declared.version.Version.{Version}
use Rattle.table_reading.specs.Fault.{in_document, in_method}
use Rattle.table_reading.specs.Fields.{text_at, has_only, tables_at, one_says}
use Rattle.table_reading.specs.Judged.{first_of, steps_fault}
use Rattle.table_reading.specs.Limits.{items_len}
use Rattle.table_reading.specs.Version.{version_of}

-- ---- methods

-- the items of the member of that name; none where it is no list of tables
abbrev pub list_at : List ℕ → Members → Items
list_at name ms = unwrap_or (tables_at name ms) no_items

-- the member's text; empty where it is no string
abbrev pub word_at : List ℕ → Members → List ℕ
word_at name ms = unwrap_or (text_at name ms) []

-- a method has a `name`, and `step` at most beside it
abbrev pub has_method_fields : Members → Bool
has_method_fields ms = has_only entry.Method ms && is_some (text_at (codes "name") ms) && is_some (tables_at (codes "step") ms)

-- one of the methods has the name
abbrev pub is_used : List ℕ → Items → Bool
is_used name earlier = one_says (codes "name") name earlier

-- of the method with that number, after the methods before it
abbrev pub fault_of_method : Version → ℕ → Items → Members → Option TableFault
fault_of_method v method earlier ms =
    if not (has_method_fields ms) then Some (in_method method fault.Field)
    else if not (is_method_name (word_at (codes "name") ms)) || is_used (word_at (codes "name") ms) earlier then Some (in_method method fault.Name)
    else if nat_lt MOST_STEPS (items_len (list_at (codes "step") ms)) then Some (in_method method fault.Limit)
    else steps_fault v method no_items (list_at (codes "step") ms)

abbrev pub method_fault : Version → Items → Data → Option TableFault
method_fault v earlier (table ms) = fault_of_method v (items_len earlier + 1) earlier ms
method_fault v earlier _ = Some (in_method (items_len earlier + 1) fault.Field)

abbrev pub methods_fault : Version → Items → Items → Option TableFault
methods_fault v earlier no_items = None
methods_fault v earlier (item d ds) = first_of (method_fault v earlier d) (methods_fault v (push_item earlier d) ds)

-- ---- the document

-- beside `version` stand `method` and, in version 2, `opening` at most
abbrev pub document_fields_hold : Version → Members → Bool
document_fields_hold v top = has_only (entry.Document v) top && is_some (tables_at (codes "opening") top) && is_some (tables_at (codes "method") top)

abbrev pub fault_of_document : Version → Members → Option TableFault
fault_of_document v top =
    if not (document_fields_hold v top) then Some (in_document fault.Field)
    else if nat_lt MOST_METHODS (items_len (list_at (codes "method") top)) || nat_lt MOST_STEPS (items_len (list_at (codes "opening") top)) then Some (in_document fault.Limit)
    else first_of (steps_fault v 0 no_items (list_at (codes "opening") top)) (methods_fault v no_items (list_at (codes "method") top))

abbrev pub document_fault : Members → Option TableFault
document_fault top = option_map_or (λ v. fault_of_document v top) (version_of top) (Some (in_document fault.Version))
