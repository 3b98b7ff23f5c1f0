use Rattle.std.proofs.Common.{◌≡◌, length}
use Rattle.std.specs.List.{list_all}
use Rattle.recorded_talks.specs.Recorded.{is_digit}
use Rattle.recorded_talks.proofs.time.are_digits.Given as goal

-- those that were passed over are digits
abbrev pub invariant-loop-digit : goal.invariant-loop-digit
invariant-loop-digit l = list_all is_digit l.left ≡ list_all is_digit l.text

abbrev pub decreases-loop-digit : goal.decreases-loop-digit
decreases-loop-digit l = length l.left
