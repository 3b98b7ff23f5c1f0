use Rattle.peer_events.proofs.Polled.{done-polls}
use Rattle.peer_events.proofs.polls.polls_of_a_done_session_are_few.Goals as goal

pub returns : goal.returns
returns c = done-polls
