use Rattle.std.proofs.Common.{◌<◌, length, arith}
use Rattle.connection.proofs.Counted.{calls_more, calls_few}
use Rattle.connection.proofs.asking.count_calls.Goals as goal

pub loop-entry-preserved : goal.loop-entry-preserved
loop-entry-preserved c =
    let within : c.loop-entry.entry-index < length c.args.entries.now = omega arith in
    let more = calls_more c.args.entries.now c.loop-entry.entry-index c.entry-item.result within c.entry-item.is in
    let few = calls_few c.entry-item.result in
    record { count = omega (arith, more, c.is_call.ensures); few = omega (arith, few, c.is_call.ensures) }
