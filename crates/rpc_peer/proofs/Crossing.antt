-- A job may go to another thread, since each of its parts may.
use denote.RattleType.{RattleType}
use denote.Param.Send.{IsSend, IsSync}
use denote.Param.SendFields.{declared_send}
use Rattle.rpc_peer.specs.contracts.gated.Gated as Gated
use Rattle.serde_json.proofs.value.Value.TheLaws.TheKnot as value
use Rattle.json_values.specs.contracts.json_value.Json as Json
use Rattle.handler_future.proofs.Crossing.{known, handler_send}
use Rattle.handler_future.specs.contracts.outcome.Outcome as Outcome
use Rattle.peer_session.specs.contracts.job.Job as Job

pub json_send : IsSend Json.the_row
json_send = search (known, value.crosses, value.crosses_both) depth 14 fits 8000

pub outcome_send : IsSend Outcome.the_row
outcome_send = search (known, json_send) depth 16 fits 8000

pub job_send : IsSend Job.the_row
job_send = search (known, handler_send, outcome_send) depth 16 fits 8000

pub gated_send : (G : RattleType) → IsSend G → IsSync G → IsSend (Gated.the_row G)
gated_send G s y = declared_send (Gated.the_type G) (
  search (known, s, y) depth 20 fits 20000,
  (search (known, job_send) depth 20 fits 20000, tt),
)
