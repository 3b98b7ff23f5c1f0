-- A clerk is one of the server's table, limits and sink, and what it has served is what the server promises.
use Rattle.std.proofs.Common.{◌≡◌, ◌≢◌, ℕ, ◌<◌, ◌≤◌, Bool, List, Option, Result, Ok, Err, IfOk, inl, inr, sym, subst, ◌∙◌, arith}
use Rattle.std.specs.Prelude.{◌↔◌, IsTrue, IfErr}
use Rattle.std.specs.declared.alloc.Global.{Global}
use Rattle.rtrb.specs.Ring.{IsPair, SameProducer, SameConsumer}
use Rattle.rtrb.specs.declared.AnyItems.{AnyItems}
use Rattle.rtrb.specs.declared.consumer.Consumer.{Consumer}
use Rattle.rtrb.specs.declared.producer.Producer.{Producer}
use Rattle.stream_framing.specs.declared.framing.Framing.{Framing}
use Rattle.method_steps.specs.Steps.{MethodTable}
use Rattle.peer_session.specs.HandedOn.{HasHandedOn}
use Rattle.peer_session.specs.declared.limits.Limits.{Limits}
use Rattle.rpc_peer.specs.declared.clerk.Served.{Served}
use Rattle.rpc_peer.specs.declared.arrival.Arrival.{Arrival}
use Rattle.peer_session.specs.declared.report.Report.{Report}
use Rattle.rpc_peer.specs.declared.fault.ServeFault.{ServeFault}
use Rattle.rpc_peer.specs.declared.fault.ServeFault.TheVariants.{Workers, Write}
use Rattle.rpc_peer.specs.Inner.Threads.{HasServed}
use Rattle.rpc_peer.specs.declared.server.TheConstants.{MOST_WORKERS}
use Rattle.rpc_peer.specs.Serve.{IsImpossible, CountsServeFault, IsServing}

pub served-for : {K : Type 0} (handed taken : K → Option (List ℕ)) (failures : K → ℕ) (framing other_framing : Framing) (table other_table : MethodTable) (limits other_limits : Limits) (sink other_sink : K) (served : Served K)
    → framing ≡ other_framing → table ≡ other_table → limits ≡ other_limits → sink ≡ other_sink → HasServed handed taken failures framing table limits sink served
    → HasServed handed taken failures other_framing other_table other_limits other_sink served
served-for handed taken failures framing other_framing table other_table limits other_limits sink other_sink served framings tables limits_are sinks has =
    subst (λ s. HasServed handed taken failures other_framing other_table other_limits s served) sinks
    (subst (λ l. HasServed handed taken failures other_framing other_table l sink served) limits_are
    (subst (λ t. HasServed handed taken failures other_framing t limits sink served) tables
    (subst (λ f. HasServed handed taken failures f table limits sink served) framings has)))

-- The two ends of a ring that come back are still the ends of one ring.
pub pair-kept : {K E : Type 0} (producer : Producer Arrival Global AnyItems) (consumer ring : Consumer Arrival Global AnyItems)
    (result : Result (Served K × Producer Arrival Global AnyItems) E)
    → IsPair producer consumer → ring ≡ consumer → IfOk result (λ done. SameConsumer ring done.0.ring) → IfOk result (λ done. SameProducer producer done.1)
    → IfOk result (λ done. IsPair done.1 done.0.ring)
pair-kept producer consumer ring (Ok done) pair same consumes produces =
    let kept = subst (λ c. SameConsumer c done.0.ring) same consumes in (
      kept.0.0 ∙ pair.0 ∙ sym produces.0.0,
      kept.0.1 ∙ pair.1 ∙ sym produces.0.1,
      kept.0.2 ∙ pair.2 ∙ sym produces.0.2,
      kept.0.3 ∙ pair.3 ∙ sym produces.0.3,
    )
pair-kept producer consumer ring (Err fault) pair same consumes produces = tt

-- What was served in one sense was served in any that follows from it.
pub serving-in : {K : Type 0} (handed taken : K → Option (List ℕ)) (failures : K → ℕ) (Whole Whole' : Option (List ℕ) → Option (List ℕ) → Report → Type 0) (Part Part' : Option (List ℕ) → Option (List ℕ) → Type 0)
    (workers : ℕ) (sink : K) (result : Result (Report × K) (ServeFault × K))
    → ((before after : Option (List ℕ)) (report : Report) → Whole before after report → Whole' before after report)
    → ((before after : Option (List ℕ)) → Part before after → Part' before after)
    → IsServing handed taken failures Whole Part workers sink result → IsServing handed taken failures Whole' Part' workers sink result
serving-in handed taken failures Whole Whole' Part Part' workers sink (Ok done) whole part served =
    (whole (taken sink) (taken done.1) done.0 served.0, served.1, served.2, served.3)
serving-in handed taken failures Whole Whole' Part Part' workers sink (Err failed) whole part served =
    (part (taken sink) (taken failed.1) served.0, served.1, served.2, served.3, served.4)

possible : (workers : ℕ) → (0 < workers) × (workers ≤ MOST_WORKERS) → IsImpossible workers → ⊥
possible workers some (inl none) = omega (arith, some.0)
possible workers some (inr many) = omega (arith, some.1)

-- A crew that is told to be possible.
pub told-possible : (workers : ℕ) (told : Bool) → (IsTrue told ↔ ((0 < workers) × (workers ≤ MOST_WORKERS))) → IsTrue told → IsImpossible workers → ⊥
told-possible workers told told_is kept impossible = possible workers (told_is.0 kept) impossible

-- What a possible crew has served.
pub serving-of : {K : Type 0} (handed taken : K → Option (List ℕ)) (failures : K → ℕ) (Whole : Option (List ℕ) → Option (List ℕ) → Report → Type 0) (Part : Option (List ℕ) → Option (List ℕ) → Type 0)
    (workers : ℕ) (sink : K) (result : Result (Report × K) (ServeFault × K))
    → (IsImpossible workers → ⊥)
    → IfOk result (λ done. Whole (taken sink) (taken done.1) done.0)
    → IfErr result (λ failed. Part (taken sink) (taken failed.1))
    → IfErr result (λ failed. failed.0 ≢ Workers)
    → IfOk result (λ done. failures done.1 ≡ failures sink)
    → IfErr result (λ failed. CountsServeFault (failures sink) failed.0 (failures failed.1))
    → IfOk result (λ done. HasHandedOn handed taken sink done.1)
    → IfErr result (λ failed. failed.0 ≢ Write → HasHandedOn handed taken sink failed.1)
    → IsServing handed taken failures Whole Part workers sink result
serving-of handed taken failures Whole Part workers sink (Ok done) possible_crew whole part unblamed unfailing cause flushed flushed_until =
    (whole, possible_crew, unfailing, flushed)
serving-of handed taken failures Whole Part workers sink (Err failed) possible_crew whole part unblamed unfailing cause flushed flushed_until =
    (part, ((λ blamed. absurd (unblamed blamed)), (λ impossible. absurd (possible_crew impossible))), (λ blamed. absurd (unblamed blamed)), cause, flushed_until)
