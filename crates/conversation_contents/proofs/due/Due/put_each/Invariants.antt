use Rattle.std.proofs.Common.{◌≡◌, ◌++◌, drop}
use Rattle.conversation_rules.specs.Dues.{unanswered_of}
use Rattle.conversation_contents.proofs.due.Due.put_each.Given as goal

-- what is told, and then what isn't yet
abbrev pub invariant-loop-owed : goal.invariant-loop-owed
invariant-loop-owed l = l.told.items ++ unanswered_of l.self (drop l.owed-index l.entries) ≡ l.fn.told.items ++ unanswered_of l.self l.entries
