use Rattle.std.proofs.Common.{◌≡◌, drop}
use Rattle.serde_json.specs.Find.{get_member}
use Rattle.method_templates.specs.Locals.{with_lent}
use Rattle.method_templates.proofs.locals.Locals.get.Given as goal

abbrev pub invariant-loop-row : goal.invariant-loop-row
invariant-loop-row l = get_member l.name (with_lent l.lent (drop l.row-index l.row-items)) ≡ get_member l.name (with_lent l.lent l.self)
