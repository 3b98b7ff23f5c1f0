use Rattle.std.proofs.Common.{◌≡◌, drop}
use Rattle.toml.specs.View.{items_view}
use Rattle.table_reading.specs.Fields.{one_says}
use Rattle.table_reading.proofs.lookup.one_says.Given as goal

-- what is left to look at decides
abbrev pub invariant-loop-table : goal.invariant-loop-table
invariant-loop-table l = one_says l.name l.text (items_view (drop l.table-index l.tables)) ≡ one_says l.name l.text (items_view l.tables)
