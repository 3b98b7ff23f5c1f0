use Rattle.std.proofs.Common.{◌≡◌, Some, sym, ◌∙◌, ap, subst}
use Rattle.serde_json.specs.Find.{pointer}
use Rattle.serde_json.specs.View.{view}
use Rattle.serde_json.specs.Written.{has_float}
use Rattle.json_values.proofs.WholeParts.{IsWholeIfSome, whole_pointer}
use Rattle.json_values.proofs.json_value.Json.pointer.Goals as goal

pub invariant_of-result : goal.invariant_of-result
invariant_of-result c =
    let found : Some (view c.in-Some.value.now) ≡ pointer c.args.path.now (view c.self.inside.value) = c.in-Some.ensures in
    let whole = subst IsWholeIfSome (sym found) (whole_pointer c.args.path.now (view c.self.inside.value) c.self.invariant) in
    ap has_float c.in_ok-clone-in-Some.ensures.cases ∙ whole
