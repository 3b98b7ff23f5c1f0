use Rattle.answer_desk.proofs.Forgotten.{IsDropped}
use Rattle.answer_desk.proofs.front.drop_front.Given as goal

abbrev pub invariant-loop-unit : goal.invariant-loop-unit
invariant-loop-unit l = IsDropped l._unit l.numbers l.initial.numbers l.units.items l.initial.units.items
