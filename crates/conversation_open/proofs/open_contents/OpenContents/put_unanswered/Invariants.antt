use Rattle.std.proofs.Common.{◌≡◌, ◌++◌, ◌-◌, ◌^◌}
use Rattle.conversation_open.specs.Open.{open_entries, contents_of}
use Rattle.conversation_contents.specs.Left.{behind}
use Rattle.conversation_rules.specs.Dues.{unanswered}
use Rattle.conversation_open.proofs.open_contents.OpenContents.put_unanswered.Given as goal

-- what is told, and then what isn't yet
abbrev pub invariant-loop-number : goal.invariant-loop-number
invariant-loop-number l = l.told.items ++ unanswered (contents_of (behind l.after (open_entries l.self))) ≡ l.initial.told.items ++ unanswered (contents_of (open_entries l.self))

abbrev pub decreases-loop-number : goal.decreases-loop-number
decreases-loop-number l = 2 ^ 64 - l.after
