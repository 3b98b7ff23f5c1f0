use Rattle.std.proofs.Common.{◌≡◌, ◌<◌, ◌%◌, Some, length, slice_get, refl, subst, ap, sym, ◌∙◌, arith}
use Rattle.peer_events.specs.Turning.{Leaves, ready}
use Rattle.peer_session.specs.Events.{picked}
use Rattle.peer_session.specs.Inner.Turns.{LeavesFrom}
use Rattle.peer_session.specs.Session.{view}
use Rattle.peer_session.proofs.Picked.{picked-leaves, picked-number}
use Rattle.peer_session.proofs.session.Session.next_job.Goals as goal

pub returns-clause-leaves : goal.returns-clause-leaves
unfolding view
returns-clause-leaves c =
    let core = c.args.self.now.runs in
    let pick = c.args.pick in
    let count = c.ready_len-count.result in
    let after = c.leave.new.runs in
    let many : count ≡ length (ready core) = c.ready_len-count.ensures in
    let some : 0 < count = omega (arith, c.if-count-eq0.false) in
    let left : LeavesFrom core (slice_get (ready core) (pick % count)) (Some c.in_ok-handler.handler) after =
    subst (λ job. LeavesFrom core (slice_get (ready core) (pick % count)) job after) c.in_ok-handler.was c.leave.ensures.leaves in
    let leaves : Leaves core (picked core pick) c.in_ok-handler.handler after = picked-leaves core pick count c.in_ok-handler.handler after many some left in
    let same : c.in_ok-handler.handler ≡ c.new.result.handler = sym (ap (λ job. job.handler) c.new.ensures) in
    (omega (arith, some, many), (after, subst (λ h. Leaves core (picked core pick) h after) same leaves, refl))

pub returns-clause-number : goal.returns-clause-number
unfolding view
returns-clause-number c =
    ap (λ job. job.handler.number) c.new.ensures
    ∙ picked-number c.args.self.now.runs c.args.pick c.ready_len-count.result c.in_ok-handler.handler.number c.ready_len-count.ensures c.in_ok-handler.ensures.number
