use Rattle.std.proofs.Common.{◌≡◌, ◌++◌, ◌-◌, ◌^◌}
use Rattle.conversation_contents.specs.Left.{left_entries, places_of, values_of, behind}
use Rattle.conversation_contents.proofs.what_is_left.Left.places.Given as goal

-- what was put there, and then what wasn't yet
abbrev pub invariant-loop-number : goal.invariant-loop-number
invariant-loop-number l = l.places.items ++ values_of (behind l.after (left_entries l.self)) ≡ places_of l.self

abbrev pub decreases-loop-number : goal.decreases-loop-number
decreases-loop-number l = 2 ^ 64 - l.after
