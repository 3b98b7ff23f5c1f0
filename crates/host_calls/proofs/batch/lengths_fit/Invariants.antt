use Rattle.std.proofs.Common.{◌≡◌, ◌+◌, length, sum}
use Rattle.host_calls.proofs.batch.lengths_fit.Given as goal

abbrev pub invariant-loop-left : goal.invariant-loop-left
invariant-loop-left l = l.rest + sum l.lengths ≡ length l.bytes + sum l.left

abbrev pub decreases-loop-left : goal.decreases-loop-left
decreases-loop-left l = length l.left
