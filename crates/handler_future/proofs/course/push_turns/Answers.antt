use Rattle.std.proofs.Common.{◌+◌, ◌<◌, ◌++◌, sym, ◌∙◌, ap, arith, append_assoc}
use Rattle.handler_future.proofs.Turns.{range-first}
use Rattle.handler_future.proofs.course.push_turns.Goals as goal

pub loop-awaited-preserved : goal.loop-awaited-preserved
loop-awaited-preserved c =
    let i = c.loop-awaited.awaited in let end = c.args.turn + c.args.calls in
    let below : i < end = omega arith in
    record {
      pushed = rw (c.push_reserved.ensures.items, append_assoc) (ap (λ r. c.loop-awaited.waits.items ++ r) (sym (range-first i end below)) ∙ c.loop-awaited.invariant.pushed);
      room = omega arith;
    }
