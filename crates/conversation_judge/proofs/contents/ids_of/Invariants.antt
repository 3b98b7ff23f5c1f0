use Rattle.std.proofs.Common.{◌≡◌, ◌++◌, drop}
use Rattle.conversation_rules.specs.Contents.{reply_ids}
use Rattle.conversation_judge.proofs.contents.ids_of.Given as goal

abbrev pub invariant-loop-entry : goal.invariant-loop-entry
invariant-loop-entry l = l.ids.items ++ reply_ids (drop l.entry-index l.entries) ≡ reply_ids l.entries
