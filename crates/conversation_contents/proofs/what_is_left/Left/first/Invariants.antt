use Rattle.std.proofs.Common.{◌-◌, ◌^◌}
use Rattle.std.specs.List.{slice_get}
use Rattle.conversation_contents.proofs.Places.{NonePasses}
use Rattle.conversation_contents.specs.Left.{at_test, holds, left_entries}
use Rattle.conversation_contents.proofs.what_is_left.Left.first.Given as goal

-- none is found up to this number
abbrev pub invariant-loop-number : goal.invariant-loop-number
invariant-loop-number l = NonePasses (at_test (holds l.look l.id) (slice_get l.entries)) l.after (left_entries l.self)

abbrev pub decreases-loop-number : goal.decreases-loop-number
decreases-loop-number l = 2 ^ 64 - l.after
