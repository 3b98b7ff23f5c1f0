use Rattle.std.proofs.Common.{◌≡◌, ◌+◌, [], ◌∷◌, drop, refl, ap, sym, ◌∙◌}
use Rattle.method_templates.specs.Locals.{with_lent}
use Rattle.method_templates.specs.Shape.{place}
use Rattle.method_templates.specs.Steps.{Step}
use Rattle.method_templates.specs.declared.step.Step.TheVariants.{Answer}
use Rattle.handler_future.proofs.Runs.{from_here}
use Rattle.handler_future.proofs.Sums.{answered}
use Rattle.handler_future.proofs.answered.answered_sum.Goals as goal

pub returns-in-Ok : goal.returns-in-Ok
returns-in-Ok c = λ R turn.
    let steps = c.args.steps.now in
    let s : Step = c.index-steps-place.result in
    let n : Step = c.in-Some.next.now in
    let read = c.in-Some.ensures.lookup in
    let here : drop c.args.place steps ≡ s ∷ drop (c.args.place + 1) steps = from_here steps c.args.place s c.requires (sym c.index-steps-place.is) in
    let next : drop (c.args.place + 1) steps ≡ n ∷ drop (c.args.place + 1 + 1) steps = from_here steps (c.args.place + 1) n read.3.0 (sym read.1) in
    let answers : n ≡ Answer (place c.in-Add.to []) = c.if-not-answers_whole.ensures.0 refl ∙ ap (λ name. Answer (place name [])) c.as_str.ensures in
    answered R steps c.args.place s n c.in-Add.to c.in-Add.left c.in-Add.right (with_lent c.args.lent.now c.args.locals.now) turn c.in-Ok.value c.in-Add.is answers here next c.in-Ok.ensures
