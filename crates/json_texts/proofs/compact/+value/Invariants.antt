use Rattle.std.proofs.Common.{ℕ, Option, ◌+◌, ◌*◌, ◌-◌, ◌≤◌, length}
use Rattle.json_texts.specs.Standing.{HasItems, HasMembers}
use Rattle.json_texts.specs.Found.{FindsItems, FindsMembers}
use Rattle.json_texts.proofs.Placed.{MoreItems, MoreMembers}
use Rattle.json_texts.proofs.FoundValues.{FindsMoreItems, FindsMoreMembers}
use Rattle.json_texts.proofs.compact.+value.Given as goal

abbrev pub decreases-value_end : goal.decreases-value_end
decreases-value_end l = 3 * l.levels

abbrev pub decreases-part_end : goal.decreases-part_end
decreases-part_end l = 3 * l.levels + 1

abbrev pub decreases-items_end : goal.decreases-items_end
decreases-items_end l = 3 * l.levels + 2

abbrev pub decreases-members_end : goal.decreases-members_end
decreases-members_end l = 3 * l.levels + 2

abbrev pub invariant-items_end-loop-at : goal.invariant-items_end-loop-at
invariant-items_end-loop-at l =
    (l.from ≤ l.at) × ((end : ℕ) → MoreItems l.levels l.text l.at end → HasItems l.levels l.text l.from end)
    × ((found : Option ℕ) → FindsMoreItems l.levels l.text l.at found → FindsItems l.levels l.text l.from found)

abbrev pub decreases-items_end-loop-at : goal.decreases-items_end-loop-at
decreases-items_end-loop-at l = length l.text - l.at

abbrev pub invariant-members_end-loop-at : goal.invariant-members_end-loop-at
invariant-members_end-loop-at l =
    (l.from ≤ l.at) × ((end : ℕ) → MoreMembers l.levels l.text l.at end → HasMembers l.levels l.text l.from end)
    × ((found : Option ℕ) → FindsMoreMembers l.levels l.text l.at found → FindsMembers l.levels l.text l.from found)

abbrev pub decreases-members_end-loop-at : goal.decreases-members_end-loop-at
decreases-members_end-loop-at l = length l.text - l.at
