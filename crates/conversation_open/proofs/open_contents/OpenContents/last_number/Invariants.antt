use Rattle.std.proofs.Common.{◌≡◌, ◌-◌, ◌^◌}
use Rattle.std.specs.Prelude.{is_some, true}
use Rattle.conversation_open.specs.Open.{open_entries}
use Rattle.number_windows.specs.Numbered.{at}
use Rattle.conversation_open.proofs.open_contents.OpenContents.last_number.Given as goal

-- it is there
abbrev pub invariant-loop-next : goal.invariant-loop-next
invariant-loop-next l = is_some (at l.number (open_entries l.self)) ≡ true

abbrev pub decreases-loop-next : goal.decreases-loop-next
decreases-loop-next l = 2 ^ 64 - l.number
