use Rattle.std.proofs.Common.{◌≡◌, ◌++◌, drop}
use Rattle.std.specs.List.{filter_map, slice_get}
use Rattle.conversation_rules.specs.Dues.{unanswered_of}
use Rattle.conversation_contents.proofs.due.Due.put_placed.Given as goal

-- what is told, and then what isn't yet
abbrev pub invariant-loop-place : goal.invariant-loop-place
invariant-loop-place l = l.told.items ++ unanswered_of l.self (filter_map (slice_get l.entries) (drop l.place-index l.place-items)) ≡ l.fn.told.items ++ unanswered_of l.self (filter_map (slice_get l.entries) l.place-items)
