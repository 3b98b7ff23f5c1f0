use Rattle.std.proofs.Common.{◌≡◌, length}
use Rattle.recorded_talks.specs.Digits.{bytes_of}
use Rattle.recorded_talks.proofs.SaidSoFar.{behind}
use Rattle.recorded_talks.proofs.bytes.bytes_of.Given as goal

abbrev pub invariant-loop-left : goal.invariant-loop-left
invariant-loop-left l = behind l.bytes.items (bytes_of l.left) ≡ bytes_of l.digits

abbrev pub decreases-loop-left : goal.decreases-loop-left
decreases-loop-left l = length l.left
