use Rattle.std.proofs.Common.{◌≡◌, length}
use Rattle.recorded_talks.specs.Recorded.{trimmed}
use Rattle.recorded_talks.proofs.text.without_blanks.Given as goal

-- the blanks that were passed over count nothing
abbrev pub invariant-loop-last : goal.invariant-loop-last
invariant-loop-last l = trimmed l.left ≡ trimmed l.line

abbrev pub decreases-loop-last : goal.decreases-loop-last
decreases-loop-last l = length l.left
