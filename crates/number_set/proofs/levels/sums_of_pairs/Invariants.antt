use Rattle.std.proofs.Common.{◌≡◌, ◌≤◌, ◌++◌, ◌-◌, length, drop}
use Rattle.number_set.specs.Levels.{pair_sums}
use Rattle.number_set.proofs.levels.sums_of_pairs.Given as goal

-- the sums so far and those of what is left are all sums
abbrev pub invariant-loop-place : goal.invariant-loop-place
invariant-loop-place l = record {
  sums : l.sums.items ++ pair_sums (drop l.place l.counts) ≡ pair_sums l.counts;
  within : l.place ≤ length l.counts;
}

abbrev pub decreases-loop-place : goal.decreases-loop-place
decreases-loop-place l = length l.counts - l.place
