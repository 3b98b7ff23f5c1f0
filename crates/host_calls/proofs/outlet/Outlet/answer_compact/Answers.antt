-- The text is the result that goes out.
use Rattle.std.proofs.Common.{refl, inr}
use Rattle.connection_messages.specs.declared.answer.Answer.TheVariants.{Result}
use Rattle.host_calls.proofs.outlet.Outlet.answer_compact.Goals as goal

pub returns-in-Ok : goal.returns-in-Ok
returns-in-Ok c =
    let answered = c.in-Ok.ensures in
    (refl, (Result c.args.text.now, c.requires, ((answered.settings, answered.stream, answered.taken), answered.ok)))

pub returns-in-Err : goal.returns-in-Err
returns-in-Err c =
    let refused = c.in-Err.ensures.err in
    ((refused.0, refl), inr (Result c.args.text.now, c.requires, (c.in-Err.refused, refl, refused.1)))
