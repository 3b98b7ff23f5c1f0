use Rattle.std.proofs.Common.{◌≡◌, ◌≤◌, sym, ◌∙◌, subst, arith}
use Rattle.toml.specs.View.{items_view}
use Rattle.table_reading.specs.Limits.{items_len}
use Rattle.table_reading.specs.Made.{steps_from}
use Rattle.method_templates.specs.Steps.{AreWithinLimits}
use Rattle.table_reading.proofs.ItemsLaws.{items_len-view}
use Rattle.method_steps.proofs.Within.{list_within}
use Rattle.method_steps.proofs.methods.method_of.Goals as goal

pub calls_of-calls-requires : goal.calls_of-calls-requires
calls_of-calls-requires c =
    let vs = items_view c.in-Some-Some.steps.now in
    let short : items_len vs ≤ 64 = omega (arith, items_len-view c.in-Some-Some.steps.now) in
    let made = c.in_ok-steps.ensures.ok in
    let is : steps_from vs ≡ c.as_slice.result.now = sym (c.as_slice.ensures.value ∙ made.0) in
    subst AreWithinLimits is (list_within c.args.version _ vs short made.1)
