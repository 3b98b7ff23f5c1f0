use Rattle.std.proofs.Common.{◌≡◌, ◌≤◌, ◌<◌, ℕ, map, false}
use Rattle.open_numbers.specs.Kept.{kept_at, kept_in}
use Rattle.open_numbers.specs.Requests.{is_reached_by}
use Rattle.open_numbers.proofs.numbers.find_recent.Given as goal

-- no number so far is one that the cancel reaches
abbrev pub invariant-loop-number : goal.invariant-loop-number
invariant-loop-number l = (k : ℕ) → l.recent ≤ k → k < l.number → is_reached_by l.id (kept_at (map kept_in l.window) k) ≡ false
