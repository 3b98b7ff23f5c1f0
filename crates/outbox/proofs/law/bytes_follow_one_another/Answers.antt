use Rattle.outbox.proofs.Left.{next_more, taken_given}
use Rattle.outbox.proofs.law.bytes_follow_one_another.Goals as goal

pub returns-clause-put_next : goal.returns-clause-put_next
returns-clause-put_next c o text stream within = next_more o.framing o.written text o.taken stream within

pub returns-clause-take : goal.returns-clause-take
returns-clause-take c o room stream = taken_given o.framing o.written o.taken room stream
