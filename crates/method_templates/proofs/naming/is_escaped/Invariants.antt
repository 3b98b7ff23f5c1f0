use Rattle.std.proofs.Common.{◌≡◌, drop}
use Rattle.method_templates.specs.Names.{is_escaped}
use Rattle.method_templates.proofs.naming.is_escaped.Given as goal

-- what is left to look at decides
abbrev pub invariant-loop-place : goal.invariant-loop-place
invariant-loop-place l = is_escaped (drop l.place l.bytes) ≡ is_escaped l.bytes
