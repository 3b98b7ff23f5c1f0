-- The handles of a gate that a clerk has.
use Rattle.std.specs.Prelude.{◌≡◌, List, All, length}
use Rattle.std.specs.Arc.{arc_value}
use Rattle.std.specs.declared.sync.Arc.{Arc}
use Rattle.std.specs.declared.alloc.Global.{Global}
use Rattle.job_slots.specs.declared.limits.TheConstants.{MOST_SLOTS}

-- One handle of the gate for each slot that there may be.
pub record AreHandlesOf {G : Type 0} (gate : Arc G Global) (handles : List (Arc G Global)) : Type 0 where
  pub many : length handles ≡ MOST_SLOTS
  pub each : All (λ handle. arc_value handle ≡ arc_value gate) handles
