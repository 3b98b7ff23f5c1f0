use Rattle.std.proofs.Common.{rules, ◌≡◌, ◌∙◌, ap, sym, ◌==◌, length, false, Some}
use Rattle.method_steps.specs.Steps.{shared_steps}
use Rattle.method_steps.proofs.Opening.{some_steps}
use Rattle.method_steps.proofs.methods.opening_of.Goals as goal

pub returns-clause-ok : goal.returns-clause-ok
returns-clause-ok c =
    let there : (length c.args.items.now == 0) ≡ false = sym c.is_empty.ensures ∙ c.if-is_empty.false in
    let kept : shared_steps c.in_ok-new.field-0 ≡ c.in_ok-steps.steps.items = search rules in
    (ap Some (kept ∙ c.in_ok-steps.ensures.ok.0) ∙ sym (some_steps c.args.items.now there), c.in_ok-steps.ensures.ok.1)
