use Rattle.std.proofs.Common.{◌∙◌, ap, sym}
use Rattle.conversation_contents.specs.Left.{index_of, index_in, left_entries}
use Rattle.conversation_dues.proofs.Left.{taken-must, taken-rather}
use Rattle.conversation_dues.proofs.arrays.taken_by.Goals as goal

pub returns-in-Some : goal.returns-in-Some
returns-in-Some c = λ left is.
    taken-must c.args.id.now left (index_of c.in-Some.number (left_entries c.args.places.now)) (sym (c.first.ensures left is) ∙ ap (index_in c.args.places.now) c.in-Some.is)

pub returns-in-None : goal.returns-in-None
returns-in-None c = λ left is.
    taken-rather c.args.id.now left (index_in c.args.places.now c.taken_rather.result) (sym (c.first.ensures left is) ∙ ap (index_in c.args.places.now) c.in-None.is)
    (c.taken_rather.ensures left is)
