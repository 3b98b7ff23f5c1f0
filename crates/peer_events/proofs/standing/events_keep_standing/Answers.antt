use Rattle.peer_events.proofs.Stood.{start-stands, taken-stands, leaves-stands, back-stands, turn-stands, closed-stands, drained-stands}
use Rattle.peer_events.proofs.standing.events_keep_standing.Goals as goal

pub returns-clause-start : goal.returns-clause-start
returns-clause-start c = start-stands c.known.ensures

pub returns-clause-take : goal.returns-clause-take
returns-clause-take c = taken-stands c.known.ensures

pub returns-clause-leave : goal.returns-clause-leave
returns-clause-leave c = λ table is_over s after jobs units items n job stands. leaves-stands c.known.ensures table is_over s jobs units items stands after n job

pub returns-clause-back : goal.returns-clause-back
returns-clause-back c = λ table is_over s jobs units items n job turned outcome stands. back-stands c.known.ensures table is_over s jobs units items stands n job turned outcome

pub returns-clause-end : goal.returns-clause-end
returns-clause-end c = closed-stands c.known.ensures

pub returns-clause-drain : goal.returns-clause-drain
returns-clause-drain c = drained-stands c.known.ensures

pub returns-clause-turn : goal.returns-clause-turn
returns-clause-turn c = turn-stands c.known.ensures
