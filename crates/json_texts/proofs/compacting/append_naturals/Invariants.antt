use Rattle.std.proofs.Common.{◌-◌, ◌≤◌, length}
use Rattle.json_texts.proofs.Blanks.{Reads}
use Rattle.json_texts.proofs.compacting.append_naturals.Given as goal

abbrev pub invariant-loop-at : goal.invariant-loop-at
invariant-loop-at l = record {
  behind : l.from ≤ l.at;
  within : l.at ≤ length l.text;
  reads : Reads l.text l.from l.at l.fn.out l.out;
}

abbrev pub decreases-loop-at : goal.decreases-loop-at
decreases-loop-at l = length l.text - l.at
