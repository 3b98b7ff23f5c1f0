use Rattle.std.proofs.Common.{ℕ, ◌-◌, ◌<◌, ◌≤◌, ◌^◌, length, decimal}
use Rattle.json_texts.specs.Standing.{Stands}
use Rattle.value_reading.proofs.numbers.whole_end.Given as goal

abbrev pub invariant-loop-at : goal.invariant-loop-at
invariant-loop-at l = record {
  order : l.from < l.at;
  within : l.at ≤ length l.text;
  room : l.at - l.from ≤ 18;
  number : (n : ℕ) × (l.first ≤ n) × (n < 10 ^ (l.at - l.from)) × Stands l.text l.from (decimal n) l.at;
}

abbrev pub decreases-loop-at : goal.decreases-loop-at
decreases-loop-at l = length l.text - l.at
