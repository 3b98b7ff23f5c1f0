use Rattle.std.proofs.Common.{◌≡◌, drop, map}
use Rattle.table_reading.specs.Fields.{is_one_of}
use Rattle.table_reading.proofs.entry.is_one_of.Given as goal

-- what is left to look at decides
abbrev pub invariant-loop-field : goal.invariant-loop-field
invariant-loop-field l = is_one_of (map (λ field. field.now) (drop l.field-index l.fields)) l.name ≡ is_one_of (map (λ field. field.now) l.fields) l.name
