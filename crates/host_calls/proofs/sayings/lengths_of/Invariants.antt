use Rattle.std.proofs.Common.{◌≡◌, ◌++◌, length}
use Rattle.host_calls.specs.Sayings.{lengths_of}
use Rattle.host_calls.proofs.sayings.lengths_of.Given as goal

abbrev pub invariant-loop-left : goal.invariant-loop-left
invariant-loop-left l = l.lengths.items ++ lengths_of l.left ≡ lengths_of l.sayings

abbrev pub decreases-loop-left : goal.decreases-loop-left
decreases-loop-left l = length l.left
