use Rattle.std.proofs.Common.{◌≡◌, ◌++◌, take, drop, map}
use Rattle.conversation_rules.specs.Dues.{cancelled}
use Rattle.conversation_contents.proofs.content_entries.cancel_each.Given as goal

abbrev pub invariant-loop-owed : goal.invariant-loop-owed
invariant-loop-owed l = l.entries ≡ map (cancelled l.settles l.id) (take l.owed-index l.fn.entries) ++ drop l.owed-index l.fn.entries
