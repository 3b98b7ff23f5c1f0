use Rattle.std.proofs.Common.{◌≡◌, [], sym, ◌∙◌, arith}
use Rattle.std.proofs.lemmas.List.{nil_from_length}
use Rattle.answer_desk.proofs.Forgotten.{IsDropped-some, IsDropped-none}
use Rattle.answer_desk.proofs.front.drop_front.Goals as goal
use Rattle.answer_desk.proofs.front.drop_front.Goals.{in-Some, in_default}

pub loop-unit-preserved : goal.loop-unit-preserved
loop-unit-preserved c =
    elim c.match-pop_front.branch [
      | in-Some w ↦
          rw (w.numbers-is, w.forget_answers.ensures, w.as_slice.ensures)
          (IsDropped-some c.loop-unit._unit c.loop-unit.numbers c.args.numbers.now c.loop-unit.units.items c.args.units.now.items c.pop_front.new.self.items w.in-Some.unit
          w.in-Some.ensures.items c.loop-unit.invariant)
      | in_default w ↦
          let none : c.loop-unit.units.items ≡ [] = nil_from_length c.loop-unit.units.items (omega (arith, w.in_default.ensures.cases, c.loop-unit.units.ok)) in
          rw w.numbers-is
          (IsDropped-none c.loop-unit._unit c.loop-unit.numbers c.args.numbers.now c.loop-unit.units.items c.args.units.now.items c.pop_front.new.self.items
          none (sym w.in_default.ensures.items ∙ none) c.loop-unit.invariant)
    ]
