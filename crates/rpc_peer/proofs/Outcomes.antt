-- What a run's outcome says.
use Rattle.std.proofs.Common.{ℕ, List, Option, Result, Ok, Err, IfOk, OnErr}
use Rattle.std.specs.Prelude.{IfErr}
use Rattle.rtrb.specs.Ring.{received, SameConsumer}
use Rattle.peer_session.specs.HandedOn.{HandsOn}
use Rattle.peer_session.specs.declared.report.Report.{Report}
use Rattle.stream_session.specs.Framings.{IsRunIn, IsShortIn}
use Rattle.peer_session.specs.declared.drain_fault.DrainFault.{DrainFault}
use Rattle.rpc_peer.specs.Arriving.{bytes_of, ending_of}
use Rattle.rpc_peer.specs.Clerk.{CountsRun}
use Rattle.rpc_peer.specs.Serving.{Start, Stops, Finishes}
use Rattle.rpc_peer.specs.declared.clerk.Clerk.{Clerk}

module _ {G K : Type 0} (handed taken : K → Option (List ℕ)) (failures : K → ℕ) (start : Start K) (clerk : Clerk G K) where
  pub ring-of : (r : Result Report DrainFault) → IfOk r (Finishes handed taken failures start clerk) → IfErr r (Stops handed taken failures start clerk)
      → SameConsumer start.ring clerk.ring
  ring-of (Ok report) finishes stops = finishes.ring
  ring-of (Err fault) finishes stops = stops.ring

  pub run-of : (r : Result Report DrainFault) → IfOk r (Finishes handed taken failures start clerk)
      → IfOk r (λ report. IsRunIn start.framing start.table start.limits (bytes_of (received clerk.ring)) (ending_of (received clerk.ring)) (taken start.sink) (taken clerk.sink) report)
  run-of (Ok report) finishes = finishes.whole
  run-of (Err fault) finishes = tt

  pub part-of : (r : Result Report DrainFault) → IfErr r (Stops handed taken failures start clerk)
      → OnErr r (IsShortIn start.framing start.table start.limits (bytes_of (received clerk.ring)) (ending_of (received clerk.ring)) (taken start.sink) (taken clerk.sink))
  part-of (Ok report) stops = tt
  part-of (Err fault) stops = stops.short

  pub cause-of : (r : Result Report DrainFault) → IfOk r (Finishes handed taken failures start clerk) → IfErr r (Stops handed taken failures start clerk)
      → CountsRun (failures start.sink) r (failures clerk.sink)
  cause-of (Ok report) finishes stops = finishes.unfailing
  cause-of (Err fault) finishes stops = stops.cause

  pub flushed-of : (r : Result Report DrainFault) → IfOk r (Finishes handed taken failures start clerk) → IfErr r (Stops handed taken failures start clerk)
      → HandsOn handed taken start.sink r clerk.sink
  flushed-of (Ok report) finishes stops = finishes.flushed
  flushed-of (Err fault) finishes stops = stops.flushed
