use Rattle.std.proofs.Common.{sym, subst}
use Rattle.std.specs.Prelude.{IfErr}
use Rattle.std.proofs.lemmas.Result.{err_from_is_err_and}
use Rattle.job_slots.specs.Seats.{looks_of}
use Rattle.rpc_peer.specs.Moves.{BringsSomeHome}
use Rattle.rpc_peer.specs.Serving.{Stops}
use Rattle.rpc_peer.proofs.Settling.{settles-home, settles-in}
use Rattle.rpc_peer.proofs.clerk.Clerk.settle.Goals as goal

pub returns-in_err-came_in-clause-err : goal.returns-in_err-came_in-clause-err
returns-in_err-came_in-clause-err g c = λ start had.
    let refused = err_from_is_err_and c.from_residual.result c.from_residual.ensures.1 in
    subst (λ r. IfErr r (Stops g.K.Sink.handed_on g.K.Sink.bytes_taken g.K.Sink.failures start c.take_in_if_few_wait.new.self)) (sym refused.1)
    (subst (Stops g.K.Sink.handed_on g.K.Sink.bytes_taken g.K.Sink.failures start c.take_in_if_few_wait.new.self) (sym refused.2)
    (c.in_err-came_in.ensures.err start (c.bring_home-came_home.ensures.serves start had)))

pub returns-then-came_home-clause-ok : goal.returns-then-came_home-clause-ok
returns-then-came_home-clause-ok g c = λ start had.
    c.in_ok-drain.ensures.ok start (c.in_ok-came_in.ensures.ok start (c.bring_home-came_home.ensures.serves start had))

pub returns-else-came_home-clause-ok : goal.returns-else-came_home-clause-ok
returns-else-came_home-clause-ok g c = λ start had.
    c.in_ok-drain.ensures.ok start (c.in_ok-came_in.ensures.ok start (c.bring_home-came_home.ensures.serves start had))

pub returns-then-came_home-clause-told : goal.returns-then-came_home-clause-told
returns-then-came_home-clause-told g c =
    let before = c.args.self.now in
    let home = c.bring_home-came_home.new.self in
    settles-home before home c.take_in_if_few_wait.new.self c.drain.new.self c.take_in_if_few_wait.ensures.slots c.drain.ensures.stays.0
    c.bring_home-came_home.result c.if-came_home.true c.bring_home-came_home.ensures.told

pub returns-else-came_home-clause-told : goal.returns-else-came_home-clause-told
returns-else-came_home-clause-told g c =
    let before = c.args.self.now in
    let home = c.bring_home-came_home.new.self in
    settles-in before home c.take_in_if_few_wait.new.self c.drain.new.self c.take_in_if_few_wait.ensures.slots c.drain.ensures.stays.0 _
    (subst (λ came. BringsSomeHome (looks_of before.seat) came (looks_of home.seat)) c.if-came_home.false c.bring_home-came_home.ensures.told)
    c.bring_home-came_home.ensures.ring c.in_ok-came_in.ensures.told c.drain.ensures.stays.1
