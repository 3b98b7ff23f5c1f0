use Rattle.std.proofs.Common.{◌≡◌, ◌-◌, ◌≤◌, length}
use Rattle.serde_json.specs.Data.{Members}
use Rattle.rpc_messages.specs.Envelope.{envelope_of}
use Rattle.rpc_messages.specs.Held.{envelope_view}
use Rattle.rpc_messages.specs.Shown.{shown_envelope}
use Rattle.value_reading.proofs.Placed.{MembersBehind}
use Rattle.rpc_messages.proofs.read.direct.read_members.Given as goal

abbrev pub invariant-loop-at : goal.invariant-loop-at
invariant-loop-at l =
    (l.fn.at ≤ l.at) × (found : Members) × MembersBehind l.levels l.text l.fn.at l.at found × (envelope_view l.envelope ≡ shown_envelope l.with_params (envelope_of found))

abbrev pub decreases-loop-at : goal.decreases-loop-at
decreases-loop-at l = length l.text - l.at
