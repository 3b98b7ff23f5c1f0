use Rattle.std.proofs.Common.{sym, subst, ◌∙◌}
use Rattle.job_slots.specs.Seats.{looks_of}
use Rattle.rpc_peer.specs.Moves.{BringsSomeHome}
use Rattle.rpc_peer.proofs.Looks.{then-home, else-home}
use Rattle.rpc_peer.proofs.clerk.Clerk.bring_home.Goals.{then-bring_home_if_turned, else-bring_home_if_turned}
use Rattle.rpc_peer.proofs.clerk.Clerk.bring_home.Goals as goal

pub loop-preserved : goal.loop-preserved
loop-preserved g c =
    let before = looks_of c.args.self.now.seat in
    let looks = looks_of c.loop.self.seat in
    let after = looks_of c.bring_home_if_turned.new.self.seat in
    record {
      serves = λ start had. c.bring_home_if_turned.ensures.serves start (c.loop.invariant.serves start had);
      told = elim c.if-bring_home_if_turned.branch [
        | then-bring_home_if_turned w ↦ subst (λ had. BringsSomeHome before had after) (sym w.has_moved-is)
            (then-home before looks after c.loop.has_moved c.in-Some.slot c.loop.invariant.told w.if-bring_home_if_turned.ensures.told)
        | else-bring_home_if_turned w ↦ subst (λ had. BringsSomeHome before had after) (sym w.has_moved-is)
            (else-home before looks after c.loop.has_moved c.loop.invariant.told w.if-bring_home_if_turned.ensures.told)
      ];
      ring = c.bring_home_if_turned.ensures.ring ∙ c.loop.invariant.ring;
    }
