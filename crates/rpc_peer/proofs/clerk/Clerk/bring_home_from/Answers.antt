-- A turned job comes home, or nothing changes.
use Rattle.std.proofs.Common.{vec_len, vec_capacity, sym, ap, subst, arith}
use Rattle.rtrb.specs.Ring.{received}
use Rattle.job_slots.specs.Seats.{looks_of}
use Rattle.peer_session.specs.SessionState.{SessionState}
use Rattle.stream_session.specs.Stream.{stream_of}
use Rattle.rpc_peer.specs.Serves.{ServesAfter, fed_by}
use Rattle.rpc_peer.proofs.Happenings.{comes-home}
use Rattle.rpc_peer.proofs.Looks.{handle-back}
use Rattle.rpc_peer.proofs.clerk.Clerk.bring_home_from.Goals as goal

pub returns-in_default-clause-serves : goal.returns-in_default-clause-serves
returns-in_default-clause-serves g c = λ start had. record {
  after = subst (λ looks. ServesAfter start.framing start.table start.limits (received c.args.self.now.ring) (g.K.Sink.bytes_taken start.sink) (stream_of c.args.self.now.stream) looks
      (g.K.Sink.bytes_taken c.args.self.now.sink)) (sym c.in_default.ensures.not_yet) had.after;
  ring = had.ring;
  unfailing = had.unfailing;
  flushed = had.flushed;
}

pub returns-clause-serves : goal.returns-clause-serves
returns-clause-serves g c = λ start had.
    let self = c.args.self.now in
    let at = g.K.Sink.bytes_taken self.sink in
    let told = c.in-Some.ensures.turned in
    let out = had.after.are_out.each c.args.slot told.0 told.1 in
    let after = stream_of c.back.new.self in
    record {
      after = subst (λ looks. ServesAfter start.framing start.table start.limits (received self.ring) (g.K.Sink.bytes_taken start.sink) after looks at) (sym c.in-Some.ensures.emptied)
          (comes-home start.framing start.table start.limits (received self.ring) (g.K.Sink.bytes_taken start.sink) (stream_of self.stream) (looks_of self.seat) at had.after
          c.args.slot told.0 told.1 after (ap (λ (x : SessionState). x.close) c.back.ensures.session)
          (c.back.ensures.back (fed_by start.framing start.table start.limits (received self.ring) (g.K.Sink.bytes_taken start.sink)) had.after.jobs at told.0.job.handler.number told.0.job
          had.after.stands out.out out.unpolled told.2.1));
      ring = had.ring;
      unfailing = had.unfailing;
      flushed = had.flushed;
    }

pub invariant_of-self-2-clause-gated : goal.invariant_of-self-2-clause-gated
invariant_of-self-2-clause-gated g c =
    let self = c.args.self.now in
    let seat = c.collect.new.clerk in
    let home = c.in-Some.ensures.turned in (
      handle-back (looks_of self.seat) (looks_of seat) c.args.slot c.push.result (vec_len self.gates) (vec_len c.push.new.self) (vec_capacity self.gates)
          ((home.0, home.1), c.in-Some.ensures.emptied) (omega (arith, seat.sized)) self.gated.0 self.gated.1 c.push.ensures.len c.push.ensures.full,
      omega (arith, self.gated.1, c.push.ensures.capacity),
    )
