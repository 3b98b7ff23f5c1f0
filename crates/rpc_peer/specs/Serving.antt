-- How a clerk stands in the middle of its run.
use Rattle.std.specs.Prelude.{◌≡◌, ℕ, List, false, Option, Err}
use Rattle.std.specs.declared.alloc.Global.{Global}
use Rattle.rtrb.specs.Ring.{received, SameConsumer}
use Rattle.rtrb.specs.declared.consumer.Consumer.{Consumer}
use Rattle.rtrb.specs.declared.AnyItems.{AnyItems}
use Rattle.method_steps.specs.Steps.{MethodTable}
use Rattle.job_slots.specs.Seats.{looks_of}
use Rattle.peer_session.specs.HandedOn.{HandsOnUntil, HasHandedOn}
use Rattle.peer_session.specs.declared.limits.Limits.{Limits}
use Rattle.peer_session.specs.declared.report.Report.{Report}
use Rattle.stream_framing.specs.declared.framing.Framing.{Framing}
use Rattle.stream_session.specs.Framings.{IsRunIn, IsShortIn}
use Rattle.peer_session.specs.declared.drain_fault.DrainFault.{DrainFault}
use Rattle.stream_session.specs.Stream.{stream_of}
use Rattle.peer_events.specs.Core.{Core}
use Rattle.peer_events.specs.Turning.{drained}
use Rattle.peer_session.specs.SessionState.{SessionState}
use Rattle.rpc_peer.specs.Arriving.{bytes_of, ending_of}
use Rattle.rpc_peer.specs.declared.arrival.Arrival.{Arrival}
use Rattle.rpc_peer.specs.Clerk.{CountsRun}
use Rattle.rpc_peer.specs.Serves.{ServesAfter}
use Rattle.rpc_peer.specs.declared.clerk.Clerk.{Clerk}

-- What a run begins with: the framing, the table and the limits, the ring, and the sink.
pub record Start (K : Type 0) : Type 0 where
  pub framing : Framing
  pub table : MethodTable
  pub limits : Limits
  pub ring : Consumer Arrival Global AnyItems
  pub sink : K

module _ {G K : Type 0} (handed taken : K → Option (List ℕ)) (failures : K → ℕ) (start : Start K) (clerk : Clerk G K) where
  -- All that has arrived was served, and the sink has not failed.
  pub record Serves : Type 0 where
    pub after : ServesAfter start.framing start.table start.limits (received clerk.ring) (taken start.sink) (stream_of clerk.stream) (looks_of clerk.seat)
        (taken clerk.sink)
    pub ring : SameConsumer start.ring clerk.ring
    pub unfailing : failures clerk.sink ≡ failures start.sink
    pub flushed : HasHandedOn handed taken start.sink clerk.sink

  -- It has stopped short, for this fault.
  pub record Stops (fault : DrainFault) : Type 0 where
    pub short : IsShortIn start.framing start.table start.limits (bytes_of (received clerk.ring)) (ending_of (received clerk.ring)) (taken start.sink) (taken clerk.sink)
    pub ring : SameConsumer start.ring clerk.ring
    pub cause : CountsRun (failures start.sink) (Err fault) (failures clerk.sink)
    pub flushed : HandsOnUntil handed taken start.sink fault clerk.sink

  -- It has done all, and tells so.
  pub record Finishes (report : Report) : Type 0 where
    pub whole : IsRunIn start.framing start.table start.limits (bytes_of (received clerk.ring)) (ending_of (received clerk.ring)) (taken start.sink) (taken clerk.sink) report
    pub ring : SameConsumer start.ring clerk.ring
    pub unfailing : failures clerk.sink ≡ failures start.sink
    pub flushed : HasHandedOn handed taken start.sink clerk.sink

-- Nothing is due: this is what a drain leaves, which no handler had failed before.
pub record IsDrained (s : SessionState) : Type 0 where
  pub core : Core
  pub core_is : s.core ≡ drained core
  pub well : s.has_failed ≡ false
