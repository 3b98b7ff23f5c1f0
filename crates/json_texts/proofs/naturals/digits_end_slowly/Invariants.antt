use Rattle.std.proofs.Common.{◌≡◌, ◌+◌, ◌-◌, ◌≤◌, length, drop}
use Rattle.std.specs.List.{prefix_len}
use Rattle.std.specs.Char.{is_ascii_digit}
use Rattle.json_texts.proofs.naturals.digits_end_slowly.Given as goal

abbrev pub invariant-loop-count : goal.invariant-loop-count
invariant-loop-count l = (prefix_len is_ascii_digit l.tail ≡ l.count + prefix_len is_ascii_digit (drop l.count l.tail)) × (l.count ≤ length l.tail)

abbrev pub decreases-loop-count : goal.decreases-loop-count
decreases-loop-count l = length l.tail - l.count
