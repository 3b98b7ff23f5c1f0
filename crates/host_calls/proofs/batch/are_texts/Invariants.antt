use Rattle.std.proofs.Common.{◌↔◌, length}
use Rattle.host_calls.specs.Batches.{parts, AreTexts}
use Rattle.host_calls.proofs.batch.are_texts.Given as goal

abbrev pub invariant-loop-method : goal.invariant-loop-method
invariant-loop-method l = AreTexts (parts l.rest l.left) ↔ AreTexts (parts l.bytes l.lengths)

abbrev pub decreases-loop-method : goal.decreases-loop-method
decreases-loop-method l = length l.left
