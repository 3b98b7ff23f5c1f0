use Rattle.std.proofs.Common.{◌-◌, length}
use Rattle.connection_messages.proofs.Noted.{AreBehind}
use Rattle.connection_messages.proofs.read.compact.read_entries.Given as goal

abbrev pub invariant-loop-at : goal.invariant-loop-at
invariant-loop-at l = AreBehind l.rules l.text l.at l.entries.items

abbrev pub decreases-loop-at : goal.decreases-loop-at
decreases-loop-at l = length l.bytes - l.at
