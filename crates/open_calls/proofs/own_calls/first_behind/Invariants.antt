use Rattle.std.proofs.Common.{◌≡◌, ℕ, suc, ◌-◌, ◌<◌, ◌≤◌, false}
use Rattle.number_windows.specs.Windows.{window_entries}
use Rattle.open_calls.specs.Inner.{is_of}
use Rattle.open_calls.proofs.Newest.{passing}
use Rattle.open_calls.proofs.own_calls.first_behind.Given as goal

-- none of those up to here passes
abbrev pub invariant-loop-key : goal.invariant-loop-key
invariant-loop-key l = record {
  least : l.initial.after ≤ l.after;
  passed : (k : ℕ) → l.initial.after < k → k ≤ l.after → passing (is_of l.fn.caller) (window_entries l.fn.waiting) k ≡ false;
}

abbrev pub decreases-loop-key : goal.decreases-loop-key
decreases-loop-key l = suc l.fn.waiting.top - l.after
