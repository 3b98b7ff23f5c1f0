use Rattle.std.proofs.Common.{◌≡◌, ◌-◌, length, map, sym, ap, ◌∙◌, arith}
use Rattle.number_set.specs.Numbers.{numbers}
use Rattle.number_set.proofs.Gathered.{gathers-nothing}
use Rattle.number_set.proofs.Sets.{len-is}
use Rattle.number_set.proofs.number_set.NumberSet.make_room.Goals as goal
use Rattle.number_set.proofs.number_set.NumberSet.make_room.Goals.{then-self-gt0, else-self-gt0}

pub returns-clause-ok : goal.returns-clause-ok
returns-clause-ok c =
    let set = c.self.inside in
    c.drop.view_is ∙ elim c.if-self-gt0.branch [
      | then-self-gt0 w ↦ w.set-is ∙ w.put_all.ensures
      | else-self-gt0 w ↦
          let none : length (numbers c.args.self.now) ≡ 0 = omega (arith, w.if-self-gt0.false, len-is set.first set.room set.len set.words.items (map (λ counts. counts.items) set.levels.items) c.self.invariant, ap (λ s. length (numbers s)) c.self.view_is) in
          w.set-is ∙ c.in_ok-set.ensures ∙ ap (λ marks. record { first = c.args.first; marks = marks }) (sym (gathers-nothing c.args.self.now c.args.first (c.args.end - c.args.first) none))
    ]
