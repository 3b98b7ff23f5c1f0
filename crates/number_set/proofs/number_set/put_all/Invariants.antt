use Rattle.number_set.proofs.Gathered.{Gathers}
use Rattle.number_set.proofs.number_set.put_all.Given as goal

-- the set has those of the numbers so far that are in
abbrev pub invariant-loop-number : goal.invariant-loop-number
invariant-loop-number l = Gathers l.old l.first l.end l.number l.set
