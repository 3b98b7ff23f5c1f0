use Rattle.std.proofs.Common.{◌<◌, length, sym, arith}
use Rattle.connection.proofs.Invalids.{first_later}
use Rattle.connection.proofs.broken.first_invalid.Goals as goal

pub loop-entry-preserved : goal.loop-entry-preserved
loop-entry-preserved c =
    let within : c.loop-entry.entry-index < length c.args.entries.now = omega arith in
    let later = first_later c.args.entries.now c.loop-entry.entry-index c.entry-item.result within c.entry-item.is (sym c.if-is_invalid.ensures) in
    record { first = omega arith; passed = omega (arith, later) }
