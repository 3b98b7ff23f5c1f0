use Rattle.std.proofs.Common.{add-one, arith}
use Rattle.number_set.proofs.Sums.{pair-within}
use Rattle.number_set.proofs.levels.sums_of_pairs.Goals as goal

pub overflow_add-counts : goal.overflow_add-counts
overflow_add-counts c = rw add-one (omega (arith, pair-within c.loop-place.place c.args.counts.now, c.requires))
