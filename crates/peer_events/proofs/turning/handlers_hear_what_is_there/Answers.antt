use Rattle.peer_events.proofs.Hears.{waits-fit, waits-heard}
use Rattle.peer_events.proofs.Waits.{waits-left, ready-hears_all, closed-ready}
use Rattle.peer_events.proofs.turning.handlers_hear_what_is_there.Goals as goal

pub returns-clause-fits : goal.returns-clause-fits
returns-clause-fits c = λ table is_over entries passed n desk h sends took. waits-fit c.known.ensures table is_over entries passed sends took n desk h

pub returns-clause-others : goal.returns-clause-others
returns-clause-others c = λ desk h. (waits-heard c.known.ensures desk h).others

pub returns-clause-messages : goal.returns-clause-messages
returns-clause-messages c = λ desk h. (waits-heard c.known.ensures desk h).messages

pub returns-clause-waits : goal.returns-clause-waits
returns-clause-waits c = waits-left c.known.ensures

pub returns-clause-ready : goal.returns-clause-ready
returns-clause-ready c = ready-hears_all c.known.ensures

pub returns-clause-closed : goal.returns-clause-closed
returns-clause-closed c = λ table is_over entries passed n desk h sends took fits rest closed. closed-ready table is_over entries passed n h desk sends took fits closed rest
