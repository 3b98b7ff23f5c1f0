use Rattle.std.proofs.Common.{ℕ, List, ◌+◌, ◌*◌, ◌-◌, ◌≤◌, length, false}
use Rattle.json_texts.specs.Compacting.{HasWrittenItems, HasWrittenMembers, ReadsSame, With}
use Rattle.json_texts.specs.Known.{IsKnown}
use Rattle.json_texts.proofs.Written.{MoreItems, MoreMembers}
use Rattle.json_texts.proofs.spaced.+spaced.Given as goal

abbrev pub decreases-append_value : goal.decreases-append_value
decreases-append_value l = 2 * l.levels

abbrev pub decreases-append_items : goal.decreases-append_items
decreases-append_items l = 2 * l.levels + 1

abbrev pub decreases-append_members : goal.decreases-append_members
decreases-append_members l = 2 * l.levels + 1

abbrev pub invariant-append_items-loop-at : goal.invariant-append_items-loop-at
invariant-append_items-loop-at l = record {
  order : (l.kept ≤ l.at) × (l.fn.from ≤ l.at) × (l.at ≤ length l.text);
  items : (after : List ℕ) → MoreItems l.levels (With l.out l.text l.kept l.at) after → HasWrittenItems l.levels (With l.fn.out l.text l.fn.kept l.fn.from) after;
  same : ReadsSame l.text (With l.fn.out l.text l.fn.kept l.fn.from) l.fn.from false → ReadsSame l.text (With l.out l.text l.kept l.at) l.at false;
}

abbrev pub decreases-append_items-loop-at : goal.decreases-append_items-loop-at
decreases-append_items-loop-at l = length l.text - l.at

abbrev pub invariant-append_members-loop-at : goal.invariant-append_members-loop-at
invariant-append_members-loop-at l = record {
  order : (l.kept ≤ l.at) × (l.fn.from ≤ l.at) × (l.at ≤ length l.text);
  members : (after : List ℕ) → MoreMembers l.levels (With l.out l.text l.kept l.at) after → HasWrittenMembers l.levels (With l.fn.out l.text l.fn.kept l.fn.from) after;
  same : ReadsSame l.text (With l.fn.out l.text l.fn.kept l.fn.from) l.fn.from false → ReadsSame l.text (With l.out l.text l.kept l.at) l.at false;
  longest : IsKnown l.levels (With l.fn.out l.text l.fn.kept l.fn.from) l.fn.longest → IsKnown l.levels (With l.out l.text l.kept l.at) l.longest;
}

abbrev pub decreases-append_members-loop-at : goal.decreases-append_members-loop-at
decreases-append_members-loop-at l = length l.text - l.at
