use Rattle.std.proofs.Common.{ℕ, List, ◌-◌, ◌≤◌, length}
use Rattle.value_reading.specs.Lexed.{HasBytes}
use Rattle.value_reading.proofs.passed.pass_rest.Given as goal

abbrev pub invariant-loop-at : goal.invariant-loop-at
invariant-loop-at l = record {
  order : l.fn.at ≤ l.at;
  bytes : (s : List ℕ) × HasBytes l.text l.fn.at s l.at;
}

abbrev pub decreases-loop-at : goal.decreases-loop-at
decreases-loop-at l = length l.text - l.at
