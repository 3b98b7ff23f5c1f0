use Rattle.std.proofs.Common.{◌∙◌, ap, sym}
use Rattle.conversation_contents.specs.Left.{index_of, index_in, left_entries}
use Rattle.conversation_dues.proofs.Left.{rather-expected, rather-may}
use Rattle.conversation_dues.proofs.arrays.taken_rather.Goals as goal

pub returns-in-Some : goal.returns-in-Some
returns-in-Some c = λ left is.
    rather-expected c.args.id.now left (index_of c.in-Some.number (left_entries c.args.places.now)) (sym (c.first.ensures left is) ∙ ap (index_in c.args.places.now) c.in-Some.is)

pub returns-in-None : goal.returns-in-None
returns-in-None c = λ left is.
    rather-may c.args.id.now left (index_in c.args.places.now c.first-in-None.result) (sym (c.first.ensures left is) ∙ ap (index_in c.args.places.now) c.in-None.is)
    (c.first-in-None.ensures left is)
