-- What the threads of a server leave. No public contract cites this file.
use Rattle.std.specs.Prelude.{ℕ, List, Option, IfOk, OnErr}
use Rattle.rtrb.specs.Ring.{received}
use Rattle.method_steps.specs.Steps.{MethodTable}
use Rattle.peer_session.specs.HandedOn.{HandsOn}
use Rattle.peer_session.specs.declared.limits.Limits.{Limits}
use Rattle.stream_framing.specs.declared.framing.Framing.{Framing}
use Rattle.stream_session.specs.Framings.{IsRunIn, IsShortIn}
use Rattle.rpc_peer.specs.Clerk.{CountsRun}
use Rattle.rpc_peer.specs.declared.clerk.Served.{Served}
use Rattle.rpc_peer.specs.Arriving.{bytes_of, ending_of}

-- The clerk has served what it took from the ring.
pub record HasServed {K : Type 0} (handed taken : K → Option (List ℕ)) (failures : K → ℕ) (framing : Framing) (table : MethodTable) (limits : Limits) (sink : K) (served : Served K) : Type 0 where
  pub whole : IfOk served.outcome (λ report.
      IsRunIn framing table limits (bytes_of (received served.ring)) (ending_of (received served.ring)) (taken sink) (taken served.sink) report)
  pub part : OnErr served.outcome (IsShortIn framing table limits (bytes_of (received served.ring)) (ending_of (received served.ring)) (taken sink) (taken served.sink))
  pub cause : CountsRun (failures sink) served.outcome (failures served.sink)
  pub flushed : HandsOn handed taken sink served.outcome served.sink
