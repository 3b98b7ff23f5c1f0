use Rattle.peer_output.proofs.Pasts.{past-partial}
use Rattle.peer_output.proofs.past.past_is_a_partial_output.Goals as goal

pub returns : goal.returns
returns c = λ table is_over past later h becomes. past-partial table is_over past h later becomes
