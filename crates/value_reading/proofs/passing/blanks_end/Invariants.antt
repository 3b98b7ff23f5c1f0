use Rattle.std.proofs.Common.{◌-◌, length}
use Rattle.value_reading.specs.Lexed.{HasBlanks}
use Rattle.value_reading.proofs.passing.blanks_end.Given as goal

abbrev pub invariant-loop-at : goal.invariant-loop-at
invariant-loop-at l = HasBlanks l.text l.from l.at

abbrev pub decreases-loop-at : goal.decreases-loop-at
decreases-loop-at l = length l.text - l.at
