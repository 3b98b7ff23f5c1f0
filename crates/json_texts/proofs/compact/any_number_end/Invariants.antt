use Rattle.std.proofs.Common.{◌≡◌, ℕ, ◌+◌, ◌-◌, ◌<◌, ◌≤◌, length, get_or, drop}
use Rattle.std.specs.List.{prefix_len}
use Rattle.json_texts.specs.Found.{is_of_number}
use Rattle.json_texts.proofs.compact.any_number_end.Given as goal

abbrev pub invariant-loop-at : goal.invariant-loop-at
invariant-loop-at l =
    (l.from ≤ l.at) × (l.at ≤ length l.text) × ((k : ℕ) → l.from ≤ k → k < l.at → get_or l.text k 0 < 128)
    × (l.from + prefix_len is_of_number (drop l.from l.text) ≡ l.at + prefix_len is_of_number (drop l.at l.text))

abbrev pub decreases-loop-at : goal.decreases-loop-at
decreases-loop-at l = length l.text - l.at
