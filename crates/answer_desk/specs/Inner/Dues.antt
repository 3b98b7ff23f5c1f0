-- What is due to the entries of a unit, however it is held.
use Rattle.std.specs.Prelude.{List, [], ◌∷◌}
use Rattle.answer_desk.specs.declared.waiting_unit.Due.{Due}
use Rattle.answer_desk.specs.declared.waiting_unit.HeldDues.{HeldDues}
use Rattle.answer_desk.specs.declared.waiting_unit.HeldDues.TheVariants as held

abbrev pub held_dues : HeldDues → List Due
held_dues (held.One due) = due ∷ []
held_dues (held.List dues) = dues
