use Rattle.std.proofs.Common.{length}
use Rattle.number_set.proofs.levels.+find_place.Given as goal

abbrev pub decreases-find_place : goal.decreases-find_place
decreases-find_place l = length l.levels.now
