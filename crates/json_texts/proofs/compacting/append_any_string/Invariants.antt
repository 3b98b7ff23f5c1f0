use Rattle.std.proofs.Common.{◌-◌, ◌≤◌, length}
use Rattle.json_texts.specs.Compacting.{HasCompactPart, With}
use Rattle.json_texts.proofs.compacting.append_any_string.Given as goal

abbrev pub invariant-loop-at : goal.invariant-loop-at
invariant-loop-at l = record {
  order : l.kept ≤ l.at;
  behind : l.from ≤ l.at;
  string : HasCompactPart l.text l.from (With l.fn.out l.text l.fn.kept l.from) (With l.out l.text l.kept l.at) l.at;
}

abbrev pub decreases-loop-at : goal.decreases-loop-at
decreases-loop-at l = length l.text - l.at
