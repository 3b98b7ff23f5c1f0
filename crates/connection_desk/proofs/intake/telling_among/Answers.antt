use Rattle.std.proofs.Common.{◌≡◌, ◌<◌, [], length, filter, drop, ap, arith}
use Rattle.std.proofs.lemmas.List.{drop_all}
use Rattle.connection_desk.specs.Inner.{is_telling}
use Rattle.connection_desk.proofs.Room.{telling_more, byte_few}
use Rattle.connection_desk.proofs.intake.telling_among.Goals as goal

pub loop-entry-preserved : goal.loop-entry-preserved
loop-entry-preserved c =
    let within : c.loop-entry.entry-index < length c.args.entries.now = omega arith in
    let more = telling_more c.args.entries.now c.loop-entry.entry-index c.entry-item.result c.is_telling.result within c.entry-item.is c.is_telling.ensures in
    let few = byte_few c.is_telling.result in
    record { count = omega (arith, more, c.loop-entry.invariant.count); few = omega (arith, few, c.loop-entry.invariant.few) }

pub returns : goal.returns
returns c =
    let none : drop c.loop-entry.entry-index c.args.entries.now ≡ [] = drop_all c.loop-entry.entry-index c.args.entries.now (omega arith) in
    omega (arith, ap (λ es. length (filter is_telling es)) none, c.loop-entry.invariant.count)
