use Rattle.std.proofs.Common.{◌≡◌, ◌+◌, ◌-◌, ◌≤◌, length, drop}
use Rattle.std.specs.List.{prefix_len}
use Rattle.json_texts.proofs.Blanks.{is_32}
use Rattle.json_texts.proofs.compacting.spaces_end.Given as goal

abbrev pub invariant-loop-at : goal.invariant-loop-at
invariant-loop-at l = (l.from + prefix_len is_32 (drop l.from l.text) ≡ l.at + prefix_len is_32 (drop l.at l.text)) × (l.from ≤ l.at) × (l.at ≤ length l.text)

abbrev pub decreases-loop-at : goal.decreases-loop-at
decreases-loop-at l = length l.text - l.at
