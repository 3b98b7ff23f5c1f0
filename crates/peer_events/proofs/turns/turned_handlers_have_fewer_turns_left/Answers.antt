use Rattle.peer_events.proofs.TurnsLeft.{fewer, stages-written}
use Rattle.peer_events.proofs.turns.turned_handlers_have_fewer_turns_left.Goals as goal

pub returns-clause-turned : goal.returns-clause-turned
returns-clause-turned c = λ s between n job turned outcome leaves is_n poll.
    fewer c.known.ensures c.front_begins_the_messages.ensures c.messages_are_at_most_the_steps.ensures s n job between leaves is_n turned outcome poll

pub returns-clause-written : goal.returns-clause-written
returns-clause-written c = λ s. stages-written s.stages
