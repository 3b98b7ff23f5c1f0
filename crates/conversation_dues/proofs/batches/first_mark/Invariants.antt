use Rattle.std.proofs.Common.{◌≡◌, drop}
use Rattle.conversation_rules.specs.Dues.{ids_read}
use Rattle.conversation_dues.proofs.batches.first_mark.Given as goal

-- none of those before it can be read
abbrev pub invariant-loop-id : goal.invariant-loop-id
invariant-loop-id l = ids_read (drop l.id-index l.ids) ≡ ids_read l.ids
