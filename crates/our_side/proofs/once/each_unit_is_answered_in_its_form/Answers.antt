use Rattle.our_side.proofs.Forms.{alone_once, together_once, arrays_once}
use Rattle.our_side.proofs.once.each_unit_is_answered_in_its_form.Goals as goal

pub returns-clause-alone : goal.returns-clause-alone
returns-clause-alone c = λ order history test may passes. alone_once test may order history passes (λ place. (_, c.each_unit_has_its_answer_once.ensures order history place))

pub returns-clause-together : goal.returns-clause-together
returns-clause-together c = λ cancels order history lawful whole test. together_once test cancels order history lawful whole (λ place. (_, c.each_unit_has_its_answer_once.ensures order history place))

pub returns-clause-arrays : goal.returns-clause-arrays
returns-clause-arrays c = λ order history. arrays_once order history (λ place. (_, c.each_unit_has_its_answer_once.ensures order history place))
