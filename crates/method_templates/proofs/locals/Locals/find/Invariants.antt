use Rattle.std.proofs.Common.{◌≡◌, drop}
use Rattle.method_templates.specs.Inner.Rows.{place_in, place_from}
use Rattle.method_templates.proofs.locals.Locals.find.Given as goal

abbrev pub invariant-loop-row : goal.invariant-loop-row
invariant-loop-row l = record {
  counted : l.place ≡ l.row-index;
  left : place_from l.place l.name (drop l.row-index l.row-items) ≡ place_in l.name l.self;
}
