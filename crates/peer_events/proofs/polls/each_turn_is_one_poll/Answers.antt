use Rattle.peer_events.proofs.Polled.{start-polls, taken-polls, left-polls, back-polls, turned-polls, closed-polls, drained-polls}
use Rattle.peer_events.proofs.polls.each_turn_is_one_poll.Goals as goal

pub returns-clause-start : goal.returns-clause-start
returns-clause-start c = start-polls

pub returns-clause-take : goal.returns-clause-take
returns-clause-take c = λ table s after jobs units items unit polls stands takes fit.
    taken-polls c.known.ensures table s after stands.past unit jobs stands.rests takes items polls fit

pub returns-clause-leave : goal.returns-clause-leave
returns-clause-leave c = λ table s after jobs items n job polls leaves fit. left-polls c.known.ensures table s after jobs n job leaves items polls fit

pub returns-clause-back : goal.returns-clause-back
returns-clause-back c = λ table is_over s jobs units items n job turned outcome polls stands is_out poll well fit.
    back-polls c.known.ensures table is_over s stands.past jobs n job turned stands.rests is_out poll.same_number items polls fit outcome poll well

pub returns-clause-turn : goal.returns-clause-turn
returns-clause-turn c = turned-polls c.known.ensures

pub returns-clause-end : goal.returns-clause-end
returns-clause-end c = closed-polls

pub returns-clause-drain : goal.returns-clause-drain
returns-clause-drain c = drained-polls
