use Rattle.std.proofs.Common.{◌≡◌, ℕ, suc, ◌-◌, ◌<◌, ◌≤◌, false}
use Rattle.number_windows.specs.Windows.{window_entries}
use Rattle.open_calls.specs.Theirs.{is_reached}
use Rattle.open_calls.proofs.Newest.{passing}
use Rattle.open_calls.proofs.their_calls.first_behind.Given as goal

-- none of those up to here passes
abbrev pub invariant-loop-number : goal.invariant-loop-number
invariant-loop-number l = record {
  least : l.initial.after ≤ l.after;
  passed : (k : ℕ) → l.initial.after < k → k ≤ l.after → passing (is_reached l.fn.id) (window_entries l.fn.calls) k ≡ false;
}

abbrev pub decreases-loop-number : goal.decreases-loop-number
decreases-loop-number l = suc l.fn.calls.top - l.after
