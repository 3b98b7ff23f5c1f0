use Rattle.std.proofs.Common.{◌≡◌}
use Rattle.std.specs.VecDeque.Iter.{deque_iter_rest}
use Rattle.number_windows.specs.Numbered.{first_above}
use Rattle.number_windows.proofs.block.search_above.Given as goal

-- what is found is among those that are left
abbrev pub invariant-loop-entry : goal.invariant-loop-entry
invariant-loop-entry g l = first_above l.after l.block.items ≡ first_above l.after (deque_iter_rest l.entry-iterator)
