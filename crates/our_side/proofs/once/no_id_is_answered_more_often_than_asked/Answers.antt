use Rattle.our_side.proofs.Counting.{few}
use Rattle.our_side.proofs.once.no_id_is_answered_more_often_than_asked.Goals as goal

pub returns : goal.returns
returns c = λ order history id named. few id named order history (λ place. (_, c.each_unit_has_its_answer_once.ensures order history place))
