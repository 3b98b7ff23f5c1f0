-- A job goes out to a free slot.
use Rattle.std.proofs.Common.{◌≡◌, true, false, None, Some, is_some, vec_len, sym, ap, subst, ◌∙◌, arith}
use Rattle.std.specs.Prelude.{position, slice_set}
use Rattle.rtrb.specs.Ring.{received}
use Rattle.job_slots.specs.Looks.{is_free}
use Rattle.job_slots.specs.Seats.{looks_of}
use Rattle.job_slots.specs.declared.view.Look.TheVariants.{In}
use Rattle.peer_session.specs.Events.{LeavesAt}
use Rattle.peer_session.specs.SessionState.{SessionState}
use Rattle.peer_session.specs.declared.job.Job.{Job}
use Rattle.stream_session.specs.Stream.{stream_of}
use Rattle.rpc_peer.specs.Serves.{ServesAfter, fed_by}
use Rattle.rpc_peer.proofs.Happenings.{goes-out}
use Rattle.rpc_peer.proofs.Looks.{handle-gone, has-handle}
use Rattle.rpc_peer.proofs.Results.{of-given, of-refused}
use Rattle.rpc_peer.proofs.clerk.Clerk.hand_out_one.Goals as goal

pub unreachable-requires : goal.unreachable-requires
unreachable-requires g c =
    let none : position is_free (looks_of c.args.self.now.seat) ≡ None =
    of-refused c.offer-offered.result (sym c.ok.ensures.value ∙ c.in_default-ok.is) c.offer-offered.ensures.full in
    let room : true ≡ false = sym c.if-not-has_room.false ∙ c.has_room.ensures ∙ ap is_some none in
    cc

pub returns-clause-serves : goal.returns-clause-serves
returns-clause-serves g c = λ start had.
    let self = c.args.self.now in
    let at = g.K.Sink.bytes_taken self.sink in
    let slot = c.in-Some-ok.field-0 in
    let given = sym c.ok.ensures.value ∙ c.in-Some-ok.is in
    let job = c.in-Some-next_job.job in
    let after = stream_of c.next_job.new.self in
    let gone = c.in-Some-next_job.ensures.out (fed_by start.framing start.table start.limits (received self.ring) (g.K.Sink.bytes_taken start.sink)) had.after.jobs at had.after.stands in
    record {
      after = subst (λ looks. ServesAfter start.framing start.table start.limits (received self.ring) (g.K.Sink.bytes_taken start.sink) after looks at)
          (sym (of-given (λ n. looks_of c.offer-offered.new.clerk ≡ slice_set (looks_of self.seat) n (In c.new.result)) c.offer-offered.result slot given
          c.offer-offered.ensures.placed))
          (goes-out start.framing start.table start.limits (received self.ring) (g.K.Sink.bytes_taken start.sink) (stream_of self.stream) (looks_of self.seat) at had.after
          slot c.new.result job c.new.ensures.job after (ap (λ (x : SessionState). x.close) c.in-Some-next_job.ensures.leaves.1.2)
          gone.0 gone.1 c.in-Some-next_job.ensures.unturned.0 c.in-Some-next_job.ensures.unturned.1);
      ring = had.ring;
      unfailing = had.unfailing;
      flushed = had.flushed;
    }

pub returns-clause-told : goal.returns-clause-told
returns-clause-told g c =
    let self = c.args.self.now in
    let slot = c.in-Some-ok.field-0 in
    let given = sym c.ok.ensures.value ∙ c.in-Some-ok.is in
    let before = (stream_of self.stream).session in
    let after = (stream_of c.next_job.new.self).session in (
      slot,
      c.new.result,
      of-given (λ n. position is_free (looks_of self.seat) ≡ Some n) c.offer-offered.result slot given c.offer-offered.ensures.least,
      of-given (λ n. looks_of c.offer-offered.new.clerk ≡ slice_set (looks_of self.seat) n (In c.new.result)) c.offer-offered.result slot given
          c.offer-offered.ensures.placed,
      subst (λ (job : Job). LeavesAt before 0 (Some job.handler) after) (sym c.new.ensures.job) c.in-Some-next_job.ensures.leaves,
    )

pub returns-in_default : goal.returns-in_default
returns-in_default g c =
    let self = c.args.self.now in
    let some = has-handle (looks_of self.seat) (vec_len self.gates) c.if-not-has_room.ensures self.gated.0 in
    absurd (omega (arith, some, c.in_default.ensures.cases.0))

pub invariant_of-self-2-clause-gated : goal.invariant_of-self-2-clause-gated
invariant_of-self-2-clause-gated g c =
    let self = c.args.self.now in (
      handle-gone (looks_of self.seat) (looks_of c.offer-offered.new.clerk) c.new.result c.offer-offered.result (vec_len self.gates) (vec_len c.pop.new.self)
          c.if-not-has_room.ensures c.offer-offered.ensures.least c.offer-offered.ensures.placed c.offer-offered.ensures.full self.gated.0 c.in-Some.ensures.cases,
      omega (arith, self.gated.1, c.pop.ensures.capacity),
    )
