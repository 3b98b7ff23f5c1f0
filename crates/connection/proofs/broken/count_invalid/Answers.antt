use Rattle.std.proofs.Common.{◌<◌, length, arith}
use Rattle.connection.proofs.Invalids.{invalid_more, invalid_few}
use Rattle.connection.proofs.broken.count_invalid.Goals as goal

pub loop-entry-preserved : goal.loop-entry-preserved
loop-entry-preserved c =
    let within : c.loop-entry.entry-index < length c.args.entries.now = omega arith in
    let more = invalid_more c.args.entries.now c.loop-entry.entry-index c.entry-item.result c.is_invalid.result within c.entry-item.is c.is_invalid.ensures in
    let few = invalid_few c.is_invalid.result in
    record { count = omega (arith, more); few = omega (arith, few) }
