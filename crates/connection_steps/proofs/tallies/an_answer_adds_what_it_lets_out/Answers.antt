use Rattle.connection_steps.proofs.Counted.{tally-answered}
use Rattle.connection_steps.proofs.tallies.an_answer_adds_what_it_lets_out.Goals as goal

pub returns : goal.returns
returns c = tally-answered
