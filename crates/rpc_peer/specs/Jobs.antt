-- Which jobs are out, as the clerk's looks tell it.
use Rattle.std.specs.Prelude.{◌≡◌, ℕ, List, slice_get, Option, Some, None}
use Rattle.handler_future.specs.State.{HandlerState}
use Rattle.job_slots.specs.declared.view.Look.{Look}
use Rattle.job_slots.specs.declared.view.Look.TheVariants.{In}
use Rattle.peer_session.specs.declared.job.Job.{Job}
use Rattle.rpc_peer.specs.declared.gated.Gated.{Gated}

-- It is out, as it went out.
pub record IsOut (jobs : ℕ → Option HandlerState) (job : Job) : Type 0 where
  pub out : jobs job.handler.number ≡ Some job.handler
  pub unturned : job.outcome ≡ None
  pub unpolled : job.polls ≡ 0

-- Each job in a slot is out, and two slots have jobs of different numbers.
pub record AreOut {G : Type 0} (looks : List (Look (Gated G))) (jobs : ℕ → Option HandlerState) : Type 0 where
  pub each : (slot : ℕ) (gated : Gated G) → slice_get looks slot ≡ Some (In gated) → IsOut jobs gated.job
  pub apart : (slot other : ℕ) (gated another : Gated G) → slice_get looks slot ≡ Some (In gated) → slice_get looks other ≡ Some (In another) →
      gated.job.handler.number ≡ another.job.handler.number → slot ≡ other
