use Rattle.std.proofs.Common.{length}
use Rattle.host_calls.specs.Batches.{parts, AreTexts}
use Rattle.host_calls.proofs.Cutting.{Made}
use Rattle.host_calls.proofs.batch.read_calls.Given as goal

abbrev pub invariant-loop-method : goal.invariant-loop-method
invariant-loop-method l = AreTexts (parts l.bytes l.lengths) × Made (parts l.bytes l.lengths) (parts l.rest l.left) l.outgoings.items

abbrev pub decreases-loop-method : goal.decreases-loop-method
decreases-loop-method l = length l.left
