use Rattle.std.proofs.Common.{◌<◌, length, arith}
use Rattle.connection_messages.proofs.Sayable.{sayable_more}
use Rattle.connection_messages.proofs.outgoing.Outgoing.are_sayable.Goals as goal

pub loop-outgoing-preserved : goal.loop-outgoing-preserved
loop-outgoing-preserved c =
    let within : c.loop-outgoing.outgoing-index < length c.args.outgoings.now = omega arith in
    sayable_more c.args.outgoings.now c.loop-outgoing.outgoing-index c.outgoing-item.result within c.outgoing-item.is c.loop-outgoing.invariant c.is_sayable.ensures
