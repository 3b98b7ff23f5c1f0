use Rattle.std.proofs.Common.{◌≡◌, map}
use Rattle.number_set.specs.Levels.{half_often, one_more_up_to}
use Rattle.number_set.proofs.levels.count_one_more.Given as goal

-- the levels so far have their counts
abbrev pub invariant-loop-level : goal.invariant-loop-level
invariant-loop-level l = record {
  counted : map (λ counts. counts.items) l.levels ≡ one_more_up_to l.level l.fn.place (map (λ counts. counts.items) l.initial.levels);
  at : l.at ≡ half_often l.level l.fn.place;
}
