-- How a number is told of its cancel, and how its handler goes out.
use Rattle.std.specs.Prelude.{◌≡◌, ℕ, Option, Some, None, true, false}
use Rattle.answer_desk.specs.State.{is_open}
use Rattle.handler_future.specs.State.{HandlerState}
use Rattle.peer_events.specs.declared.stage.Stage.TheVariants.{Idle, Out}
use Rattle.peer_events.specs.Core.{Core, stage_at, with_stage}
use Rattle.peer_events.specs.Finishing.{told_at}
use Rattle.peer_events.specs.Turning.{Leaves}
use Rattle.session_runs.specs.Runs.{is_idle}

-- a number that was told of its cancel is finished where its handler is here
abbrev pub told_here : Core → ℕ → Core
told_here core n = told_at core (stage_at core n)

-- The handler of a number goes out, where there is a number.
abbrev pub LeavesFrom : Core → Option ℕ → Option HandlerState → Core → Type 0
LeavesFrom core None job after = (job ≡ None) × (after ≡ core)
LeavesFrom core (Some n) None after = ⊥
LeavesFrom core (Some n) (Some job) after = Leaves core n job after

-- The handler of a number goes out, where it is here.
abbrev pub SendsOut : Core → ℕ → Option HandlerState → Core → Type 0
SendsOut core n None after = (is_idle (stage_at core n) ≡ false) × (after ≡ core)
SendsOut core n (Some h) after = (written : ℕ) × (stage_at core n ≡ Idle h written) × (after ≡ with_stage core n (Out written)) × (h.number ≡ n) × (is_open core.desk n ≡ true)
