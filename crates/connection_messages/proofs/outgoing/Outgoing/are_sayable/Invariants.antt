use Rattle.std.proofs.Common.{take}
use Rattle.connection_messages.specs.ReadBack.{AreSayable}
use Rattle.connection_messages.proofs.outgoing.Outgoing.are_sayable.Given as goal

abbrev pub invariant-loop-outgoing : goal.invariant-loop-outgoing
invariant-loop-outgoing l = AreSayable (take l.outgoing-index l.outgoings)
