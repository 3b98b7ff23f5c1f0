use Rattle.std.proofs.Common.{◌≤◌, ◌-◌, length, take}
use Rattle.number_windows.specs.Numbered.{Below}
use Rattle.number_windows.proofs.block.below.Given as goal

abbrev pub invariant-loop-index : goal.invariant-loop-index
invariant-loop-index g l = record {
  within : l.index ≤ length l.block.items;
  below : Below l.number (take l.index l.block.items);
}

abbrev pub decreases-loop-index : goal.decreases-loop-index
decreases-loop-index g l = length l.block.items - l.index
