use Rattle.std.proofs.Common.{◌≡◌, drop}
use Rattle.toml.specs.View.{items_view}
use Rattle.table_reading.specs.Fields.{are_tables}
use Rattle.table_reading.proofs.lookup.are_tables.Given as goal

-- what is left to look at decides
abbrev pub invariant-loop-item : goal.invariant-loop-item
invariant-loop-item l = are_tables (items_view (drop l.item-index l.item-items)) ≡ are_tables (items_view l.item-items)
