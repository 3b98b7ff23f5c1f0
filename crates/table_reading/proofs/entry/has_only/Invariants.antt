use Rattle.std.proofs.Common.{◌≡◌}
use Rattle.toml.specs.View.{members_view}
use Rattle.table_reading.specs.Fields.{has_only}
use Rattle.table_reading.proofs.entry.has_only.Given as goal

-- what is left to look at decides
abbrev pub invariant-loop-name : goal.invariant-loop-name
invariant-loop-name l = has_only l.entry (members_view l.name-iterator) ≡ has_only l.entry (members_view l.initial.name-iterator)
