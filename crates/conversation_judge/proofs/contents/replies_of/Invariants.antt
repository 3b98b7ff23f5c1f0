use Rattle.std.proofs.Common.{◌≡◌, ◌++◌, ◌+◌, drop}
use Rattle.conversation_rules.specs.Contents.{replies_in}
use Rattle.conversation_judge.proofs.contents.replies_of.Given as goal

abbrev pub invariant-loop-at : goal.invariant-loop-at
invariant-loop-at l = l.replies.items ++ replies_in l.protocol l.owed (l.at + 1) (drop l.at l.entries) ≡ replies_in l.protocol l.owed 1 l.entries
