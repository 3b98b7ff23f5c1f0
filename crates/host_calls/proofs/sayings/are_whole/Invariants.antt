use Rattle.std.proofs.Common.{◌≡◌, ◌+◌, length}
use Rattle.host_calls.specs.Sayings.{byte_count}
use Rattle.host_calls.proofs.sayings.are_whole.Given as goal

abbrev pub invariant-loop-left : goal.invariant-loop-left
invariant-loop-left l = l.rest + byte_count l.sayings ≡ length l.bytes + byte_count l.left

abbrev pub decreases-loop-left : goal.decreases-loop-left
decreases-loop-left l = length l.left
