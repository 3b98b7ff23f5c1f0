-- What a call that serves promises of its result: which crews are impossible, what a fault does to a sink's count of failures,
-- and what a hook is told.
use Rattle.std.specs.Prelude.{◌≡◌, ◌≢◌, ◌↔◌, ℕ, ◌<◌, ◌⊎◌, List, Option, Result, Ok, Err}
use Rattle.peer_session.specs.declared.drain_fault.DrainFault.{DrainFault}
use Rattle.peer_session.specs.declared.drain_fault.DrainFault.TheVariants as drain
use Rattle.peer_session.specs.HandedOn.{HasHandedOn}
use Rattle.peer_session.specs.declared.report.Close.{Close}
use Rattle.peer_session.specs.declared.report.Report.{Report}
use Rattle.stream_session.specs.Promise.{CountsFault}
use Rattle.rpc_peer.specs.declared.fault.ServeFault.{ServeFault}
use Rattle.rpc_peer.specs.declared.fault.ServeFault.TheVariants.{Workers, Memory, Write}
use Rattle.rpc_peer.specs.declared.server.TheConstants.{MOST_WORKERS}

-- No server has so many workers.
abbrev pub IsImpossible : ℕ → Type 0
IsImpossible workers = (workers ≡ 0) ⊎ (MOST_WORKERS < workers)

-- A sink's failures are counted as by the fault of a drain; where a crew is refused, nothing is written, and the count stays.
abbrev pub CountsServeFault : ℕ → ServeFault → ℕ → Type 0
CountsServeFault before Workers after = after ≡ before
CountsServeFault before Memory after = CountsFault before drain.Memory after
CountsServeFault before Write after = CountsFault before drain.Write after

-- By so many workers an input was served into a sink. What the sink has taken since is a whole run, or a part of one: `Whole` and `Part` say which. An
-- impossible number of workers is refused, no other is, and of the refusal nothing comes. The sink's failures are counted. Unless a write has failed, the sink
-- is the one that it was, or has handed on all that it has taken.
abbrev pub IsServing : {K : Type 0} → (K → Option (List ℕ)) → (K → Option (List ℕ)) → (K → ℕ) → (Option (List ℕ) → Option (List ℕ) → Report → Type 0) → (Option (List ℕ) → Option (List ℕ) → Type 0)
    → ℕ → K → Result (Report × K) (ServeFault × K) → Type 0
IsServing handed taken failures Whole Part workers sink (Ok done) =
    Whole (taken sink) (taken done.1) done.0
    × (IsImpossible workers → ⊥)
    × (failures done.1 ≡ failures sink)
    × HasHandedOn handed taken sink done.1
IsServing handed taken failures Whole Part workers sink (Err failed) =
    Part (taken sink) (taken failed.1)
    × ((failed.0 ≡ Workers) ↔ IsImpossible workers)
    × (failed.0 ≡ Workers → failed.1 ≡ sink)
    × CountsServeFault (failures sink) failed.0 (failures failed.1)
    × (failed.0 ≢ Write → HasHandedOn handed taken sink failed.1)

-- How a clerk's run ended, as a hook is told.
abbrev pub end_of_run : Result Report DrainFault → Result Close ServeFault
end_of_run (Ok report) = Ok report.end
end_of_run (Err drain.Memory) = Err Memory
end_of_run (Err drain.Write) = Err Write

-- How a call that serves ended.
abbrev pub end_of : {K : Type 0} → Result (Report × K) (ServeFault × K) → Result Close ServeFault
end_of (Ok done) = Ok done.0.end
end_of (Err failed) = Err failed.0
