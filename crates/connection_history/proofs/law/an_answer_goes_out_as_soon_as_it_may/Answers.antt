use Rattle.connection_history.proofs.Prompt.{prompt_answered, prompt_came, held_back}
use Rattle.connection_history.proofs.law.an_answer_goes_out_as_soon_as_it_may.Goals as goal

pub returns-clause-as_answered : goal.returns-clause-as_answered
returns-clause-as_answered c = prompt_answered

pub returns-clause-as_came : goal.returns-clause-as_came
returns-clause-as_came c = prompt_came

pub returns-clause-not_before : goal.returns-clause-not_before
returns-clause-not_before c = held_back
