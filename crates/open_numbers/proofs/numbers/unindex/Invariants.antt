use Rattle.std.proofs.Common.{map}
use Rattle.open_numbers.specs.Kept.{kept_in}
use Rattle.open_numbers.specs.Numbers.{IsIndexed}
use Rattle.open_numbers.proofs.numbers.unindex.Given as goal

abbrev pub invariant-loop-recent : goal.invariant-loop-recent
invariant-loop-recent l = IsIndexed (map kept_in l.window) l.earlier l.recent

abbrev pub decreases-loop-recent : goal.decreases-loop-recent
decreases-loop-recent l = l.recent
