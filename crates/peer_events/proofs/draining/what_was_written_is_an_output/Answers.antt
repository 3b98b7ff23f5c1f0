use Rattle.peer_events.proofs.Done.{done-output}
use Rattle.peer_events.proofs.draining.what_was_written_is_an_output.Goals as goal

pub returns-clause-partial : goal.returns-clause-partial
returns-clause-partial c = λ table is_over s past jobs later rest becomes. c.known.ensures.is_partial table is_over past later rest.past_is becomes

pub returns-clause-whole : goal.returns-clause-whole
returns-clause-whole c = done-output c.known.ensures
