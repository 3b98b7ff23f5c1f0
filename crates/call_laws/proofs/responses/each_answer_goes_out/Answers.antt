use Rattle.call_laws.proofs.SaidOnce.{all_said}
use Rattle.call_laws.proofs.responses.each_answer_goes_out.Goals as goal

pub returns : goal.returns
returns c = λ order history id given none it.
    let law = c.nothing_is_owed_where_nothing_is_open.ensures in
    all_said order history id given (law.out order history none, λ place. law.none_open history place none) it
