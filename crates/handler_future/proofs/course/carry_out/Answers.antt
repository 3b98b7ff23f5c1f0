use Rattle.std.proofs.Common.{arith}
use Rattle.method_templates.specs.Locals.{with_lent}
use Rattle.handler_future.proofs.Asks.{calls_made, few_calls}
use Rattle.handler_future.proofs.course.carry_out.Goals as goal

pub overflow_cast-count : goal.overflow_cast-count
overflow_cast-count c =
    let few = calls_made (with_lent c.args.lent.now c.args.course.now.registers) c.args.step.now _ c.in-Calls.calls c.requires.limits c.in_ok-value.ensures c.in-Calls.is in
    let most = few_calls c.args.step.now c.requires.limits in
    omega arith

pub ask-requires-in-Calls-clause-turns : goal.ask-requires-in-Calls-clause-turns
ask-requires-in-Calls-clause-turns c =
    let few = calls_made (with_lent c.args.lent.now c.args.course.now.registers) c.args.step.now _ c.in-Calls.calls c.requires.limits c.in_ok-value.ensures c.in-Calls.is in
    omega arith
