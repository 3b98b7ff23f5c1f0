-- One job more is out, and one slot fewer is free.
use Rattle.std.proofs.Common.{◌≡◌, ◌+◌, inr, arith}
use Rattle.job_slots.specs.Seats.{looks_of}
use Rattle.rpc_peer.specs.Moves.{free_count}
use Rattle.rpc_peer.proofs.Looks.{out-more, none-left}
use Rattle.rpc_peer.proofs.clerk.Clerk.hand_out_jobs.Goals as goal

pub loop-preserved : goal.loop-preserved
loop-preserved g c =
    let gone = c.loop.gone in
    let now = c.saturating_add-gone.result in
    let rises : now ≡ gone + 1 = omega (arith, c.saturating_add-gone.ensures, c.loop.invariant.many, c.loop-test.true) in
    let out = c.if-not-hand_out_one.ensures.told in
    let before = looks_of c.args.self.now.seat in
    let after = looks_of c.hand_out_one.new.self.seat in
    let told : free_count before ≡ free_count after + (gone + 1) =
    out-more before (looks_of c.loop.self.seat) after out.0 gone out.1 c.loop.invariant.told out.2 out.3 in
    record {
      serves = λ start had. c.hand_out_one.ensures.serves start (c.loop.invariant.serves start had);
      told = omega (arith, told, rises);
      many = omega (arith, rises, c.loop.invariant.many);
    }

pub returns-after-loop-clause-all : goal.returns-after-loop-clause-all
returns-after-loop-clause-all g c =
    let before = c.args.self.now.seat in
    inr (none-left (looks_of before) (looks_of c.loop.self.seat) c.loop.gone (omega (arith, before.sized)) c.loop.invariant.told
    (omega (arith, c.loop.invariant.many, c.loop-test.false)))

pub returns-then-not-hand_out_one-clause-serves : goal.returns-then-not-hand_out_one-clause-serves
returns-then-not-hand_out_one-clause-serves g c = λ start had. c.hand_out_one.ensures.serves start (c.loop.invariant.serves start had)
