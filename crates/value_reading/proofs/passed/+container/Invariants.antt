use Rattle.std.proofs.Common.{List, ◌+◌, ◌*◌, ◌-◌, ◌≤◌, length}
use Rattle.serde_json.specs.Data.{Data, Members}
use Rattle.value_reading.proofs.Placed.{ItemsBehind, MembersBehind}
use Rattle.value_reading.proofs.passed.+container.Given as goal

abbrev pub decreases-pass_container : goal.decreases-pass_container
decreases-pass_container l = 3 * l.levels

abbrev pub decreases-pass_value : goal.decreases-pass_value
decreases-pass_value l = 3 * l.levels + 1

abbrev pub decreases-pass_items : goal.decreases-pass_items
decreases-pass_items l = 3 * l.levels + 2

abbrev pub decreases-pass_members : goal.decreases-pass_members
decreases-pass_members l = 3 * l.levels + 2

abbrev pub invariant-pass_items-loop-at : goal.invariant-pass_items-loop-at
invariant-pass_items-loop-at l = record {
  order : l.fn.at ≤ l.at;
  items : (ds : List Data) × ItemsBehind l.levels l.text l.fn.at l.at ds;
}

abbrev pub decreases-pass_items-loop-at : goal.decreases-pass_items-loop-at
decreases-pass_items-loop-at l = length l.text - l.at

abbrev pub invariant-pass_members-loop-at : goal.invariant-pass_members-loop-at
invariant-pass_members-loop-at l = record {
  order : l.fn.at ≤ l.at;
  members : (found : Members) × MembersBehind l.levels l.text l.fn.at l.at found;
}

abbrev pub decreases-pass_members-loop-at : goal.decreases-pass_members-loop-at
decreases-pass_members-loop-at l = length l.text - l.at
