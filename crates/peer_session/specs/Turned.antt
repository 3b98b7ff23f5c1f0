-- What one turn makes of a job.
use Rattle.std.specs.Prelude.{◌≡◌, ◌+◌, ◌^◌, ◌-◌, min}
use Rattle.handler_future.specs.State.{IsPoll}
use Rattle.peer_session.specs.declared.job.Job.{Job}

-- One poll, whose answer the job keeps.
pub record Turned (before after : Job) : Type 0 where
  pub poll : IsPoll before.handler after.handler after.outcome
  pub polls : after.polls ≡ min (before.polls + 1) (2 ^ 64 - 1)
