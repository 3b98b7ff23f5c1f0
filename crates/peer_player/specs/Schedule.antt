-- Which handler a schedule turns next, and what its turn makes of a session.
use Rattle.std.specs.Prelude.{◌≡◌, ℕ, ◌+◌, ◌-◌, ◌^◌, min, length, slice_index_or, Bool, true, false, Option, Some}
use Rattle.handler_future.specs.State.{HandlerState, IsPoll}
use Rattle.handler_future.specs.declared.outcome.Outcome.{Outcome}
use Rattle.peer_player.specs.declared.schedule.Picks.{Picks}
use Rattle.peer_player.specs.declared.schedule.Picks.TheVariants.{First, Last, List}
use Rattle.peer_session.specs.Events.{LeavesAt, with_job_back}
use Rattle.peer_session.specs.SessionState.{SessionState}
use Rattle.peer_events.specs.Turning.{ready}

-- The place, among the handlers that are ready, of the one that is turned where so many were turned before; behind the last of the listed places the first.
abbrev pub place_of : Picks → ℕ → ℕ → ℕ
place_of First turned ready = 0
place_of Last turned ready = ready - 1
place_of (List places) turned ready = slice_index_or places turned 0

-- One turn more is counted, up to the greatest value.
abbrev pub turns_after : Bool → ℕ → ℕ
turns_after true turned = min (turned + 1) (2 ^ 64 - 1)
turns_after false turned = turned

-- The handler that is picked has gone out, was polled once, and is back.
pub record TurnsPicked (picks : Picks) (turned : ℕ) (s after : SessionState) : Type 0 where
  pub job : HandlerState
  pub between : SessionState
  pub leaves : LeavesAt s (place_of picks turned (length (ready s.core))) (Some job) between
  pub polled : HandlerState
  pub outcome : Option Outcome
  pub poll : IsPoll job polled outcome
  pub after_is : after ≡ with_job_back between polled outcome 1
