use Rattle.std.proofs.Common.{◌+◌, ◌*◌, ◌-◌, ◌≤◌, length, map}
use Rattle.serde_json.specs.View.{view, members_view}
use Rattle.value_reading.proofs.Placed.{ItemsBehind, MembersBehind}
use Rattle.value_reading.proofs.values.+value.Given as goal

abbrev pub decreases-read_value : goal.decreases-read_value
decreases-read_value l = 3 * l.levels

abbrev pub decreases-read_items : goal.decreases-read_items
decreases-read_items l = 3 * l.levels + 2

abbrev pub decreases-read_members : goal.decreases-read_members
decreases-read_members l = 3 * l.levels + 2

abbrev pub decreases-push_item : goal.decreases-push_item
decreases-push_item l = 3 * l.levels + 1

abbrev pub invariant-read_items-loop-at : goal.invariant-read_items-loop-at
invariant-read_items-loop-at l = (l.fn.at ≤ l.at) × ItemsBehind l.levels l.text l.fn.at l.at (map view l.found.items)

abbrev pub decreases-read_items-loop-at : goal.decreases-read_items-loop-at
decreases-read_items-loop-at l = length l.text - l.at

abbrev pub invariant-read_members-loop-at : goal.invariant-read_members-loop-at
invariant-read_members-loop-at l = (l.fn.at ≤ l.at) × MembersBehind l.levels l.text l.fn.at l.at (members_view l.found.entries)

abbrev pub decreases-read_members-loop-at : goal.decreases-read_members-loop-at
decreases-read_members-loop-at l = length l.text - l.at
