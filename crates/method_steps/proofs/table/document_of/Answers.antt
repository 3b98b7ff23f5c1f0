use Rattle.std.proofs.Common.{rules}
use Rattle.toml.specs.Errors.{IsMemory}
use Rattle.toml.specs.View.{table_view}
use Rattle.method_steps.proofs.DocumentOf.{some_document, no_document}
use Rattle.method_steps.proofs.table.document_of.Goals as goal

pub returns-in-Ok-clause-ok : goal.returns-in-Ok-clause-ok
returns-in-Ok-clause-ok c = some_document c.args.bytes.now (table_view c.in-Ok.top) c.in-Ok.ensures.ok

pub returns-else-is_memory-clause-refused : goal.returns-else-is_memory-clause-refused
returns-else-is_memory-clause-refused c = λ other.
    let outside : IsMemory c.in-Err.error → ⊥ = search rules in
    (no_document c.args.bytes.now (c.in-Err.ensures.refused outside), search rules)
