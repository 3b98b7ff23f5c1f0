use Rattle.our_side.proofs.Plainly.{answers_none}
use Rattle.our_side.proofs.asked.who_answers_what_was_asked_is_not_accused.Goals as goal

pub returns : goal.returns
returns c = λ protocol framing limits seen side. answers_none c.places_stay.ensures.grow protocol side framing limits seen
