use Rattle.std.proofs.Common.{◌≡◌, ℕ}
use Rattle.std.specs.BTreeMap.{get}
use Rattle.std.specs.Ordering.{nat_cmp}
use Rattle.handler_future.specs.Front.{find_heard}
use Rattle.handler_future.proofs.listed.first_replies.Given as goal

abbrev pub invariant-loop-turn : goal.invariant-loop-turn
invariant-loop-turn l = (t : ℕ) → get nat_cmp l.listed t ≡ find_heard l.yielded t
