use Rattle.std.proofs.Common.{◌≡◌, ◌∷◌, ◌++◌, [], length, map}
use Rattle.number_set.specs.Levels.{AreSmall, IsChain, lowest}
use Rattle.number_set.proofs.levels.levels_over.Given as goal

-- the levels so far with the next one stand over the marks
abbrev pub invariant-loop-alloc : goal.invariant-loop-alloc
invariant-loop-alloc l = record {
  chain : IsChain (map (λ counts. counts.items) l.levels.items ++ l.counts.items ∷ []);
  lowest : lowest (map (λ counts. counts.items) l.levels.items ++ l.counts.items ∷ []) ≡ l.initial.counts.items;
  small : AreSmall l.counts.items;
}

abbrev pub decreases-loop-alloc : goal.decreases-loop-alloc
decreases-loop-alloc l = length l.counts.items
