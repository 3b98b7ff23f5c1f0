use Rattle.number_set.proofs.word.+bit_behind.Given as goal

abbrev pub decreases-bit_behind : goal.decreases-bit_behind
decreases-bit_behind l = l.before
