use Rattle.peer_events.proofs.Stood.{partial-stands, output-stands, stuck-stands}
use Rattle.peer_events.proofs.standing.what_stands_is_an_output.Goals as goal

pub returns-clause-partial : goal.returns-clause-partial
returns-clause-partial c = λ table is_over s jobs units later items stands. partial-stands c.known.ensures table is_over s jobs units items stands later

pub returns-clause-whole : goal.returns-clause-whole
returns-clause-whole c = output-stands c.known.ensures

pub returns-clause-drained : goal.returns-clause-drained
returns-clause-drained c = stuck-stands c.known.ensures
