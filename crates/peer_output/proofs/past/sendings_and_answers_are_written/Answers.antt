use Rattle.peer_output.proofs.Pasts.{sent-past, released-past}
use Rattle.peer_output.proofs.past.sendings_and_answers_are_written.Goals as goal

pub returns-clause-sent : goal.returns-clause-sent
returns-clause-sent c = sent-past

pub returns-clause-released : goal.returns-clause-released
returns-clause-released c = λ table is_over past units left h next all. released-past table is_over past h units left next all
