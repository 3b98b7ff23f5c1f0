-- The table of methods that a text stands for.
use Rattle.std.specs.Prelude.{ℕ, List, [], ◌∷◌, codes, Option, Some, None, Result, Ok, Err, if◌then◌else◌}
use Rattle.std.specs.Option.{option_map_or}
use Rattle.std.specs.Str.{is_utf8}
use Rattle.toml.specs.Data.{Data, table, Items, no_items, item, Members}
use Rattle.toml.specs.Parse.{parse_document}
use Rattle.method_steps.specs.Judged.{list_at, word_at, document_fault}
use Rattle.method_steps.specs.Steps.{NamedSteps, MethodTable}
use Rattle.table_reading.specs.declared.fault.FaultKind.TheVariants as fault
use Rattle.table_reading.specs.declared.fault.TableFault.{TableFault}
use Rattle.table_reading.specs.Fault.{in_document}
use Rattle.table_reading.specs.Made.{steps_from}

-- ---- methods

abbrev pub method_from : Data → NamedSteps
method_from (table ms) = record { name = word_at (codes "name") ms; steps = steps_from (list_at (codes "step") ms) }
method_from _ = record { name = []; steps = [] }

abbrev pub methods_from : Items → List NamedSteps
methods_from no_items = []
methods_from (item d ds) = method_from d ∷ methods_from ds

-- ---- the document

abbrev pub ok_unless : {A : Type 0} → Option TableFault → A → Result A TableFault
ok_unless None made = Ok made
ok_unless (Some f) made = Err f

-- the opening and the methods of a document without faults
abbrev pub made_of : Members → MethodTable
made_of top = record { opening = steps_from (list_at (codes "opening") top); methods = methods_from (list_at (codes "method") top) }

-- the table of a document, or its first fault
abbrev pub table_of_document : Members → Result MethodTable TableFault
table_of_document top = ok_unless (document_fault top) (made_of top)

-- a TOML document is UTF-8 (TOML 1.0, "Spec")
abbrev pub document_of : List ℕ → Option Members
document_of bytes = if is_utf8 bytes then parse_document bytes else None

-- the table that a text stands for, or its first fault
abbrev pub table_of : List ℕ → Result MethodTable TableFault
table_of bytes = option_map_or table_of_document (document_of bytes) (Err (in_document fault.NotToml))
