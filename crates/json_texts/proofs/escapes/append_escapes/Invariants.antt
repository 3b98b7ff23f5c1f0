use Rattle.std.proofs.Common.{◌-◌, ◌≤◌, length}
use Rattle.json_texts.specs.Compacting.{HasCompactPart}
use Rattle.json_texts.proofs.escapes.append_escapes.Given as goal

abbrev pub invariant-loop-at : goal.invariant-loop-at
invariant-loop-at l = record {
  behind : l.from ≤ l.at;
  within : l.at ≤ length l.text;
  part : HasCompactPart l.text l.from l.fn.out l.out l.at;
}

abbrev pub decreases-loop-at : goal.decreases-loop-at
decreases-loop-at l = length l.text - l.at
