use Rattle.std.proofs.Common.{◌≡◌, take}
use Rattle.json.specs.Value.{items_view}
use Rattle.conversation_reading.specs.Strictly.{entries_of}
use Rattle.conversation_reading.proofs.read.read_entries.Given as goal

abbrev pub invariant-loop-value : goal.invariant-loop-value
invariant-loop-value l = l.entries.items ≡ entries_of (items_view (take l.value-index l.values))
