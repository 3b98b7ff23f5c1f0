use Rattle.std.proofs.Common.{◌-◌, ◌<◌, ◌≤◌, ◌^◌, length, decimal}
use Rattle.json_texts.specs.Standing.{Stands}
use Rattle.value_reading.proofs.numbers.whole_at.Given as goal

abbrev pub invariant-loop-number : goal.invariant-loop-number
invariant-loop-number l = record {
  size : l.number < 2 ^ 63;
  within : l.at ≤ length l.text;
  order : l.from < l.at;
  stands : Stands l.text l.from (decimal l.number) l.at;
}

abbrev pub decreases-loop-number : goal.decreases-loop-number
decreases-loop-number l = length l.text - l.at
