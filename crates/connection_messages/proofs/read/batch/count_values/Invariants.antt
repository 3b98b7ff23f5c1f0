use Rattle.std.proofs.Common.{◌-◌, ◌<◌, length}
use Rattle.connection_messages.proofs.Counted.{AreCounted}
use Rattle.connection_messages.proofs.read.batch.count_values.Given as goal

abbrev pub invariant-loop-at : goal.invariant-loop-at
invariant-loop-at l = (l.count < l.at) × AreCounted l.bytes l.at l.count

abbrev pub decreases-loop-at : goal.decreases-loop-at
decreases-loop-at l = length l.bytes - l.at
