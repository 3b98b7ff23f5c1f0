use Rattle.std.proofs.Common.{length, map, ap, ◌∙◌}
use Rattle.number_set.specs.Numbers.{numbers}
use Rattle.number_set.proofs.Sets.{len-is}
use Rattle.number_set.proofs.number_set.NumberSet.len.Goals as goal

pub returns : goal.returns
returns c =
    let set = c.self.inside in
    len-is set.first set.room set.len set.words.items (map (λ counts. counts.items) set.levels.items) c.self.invariant ∙ ap (λ s. length (numbers s)) c.self.view_is
