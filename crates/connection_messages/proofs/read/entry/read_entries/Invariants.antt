use Rattle.std.proofs.Common.{◌≡◌, take}
use Rattle.json.specs.Value.{items_view}
use Rattle.connection_messages.specs.Reading.{entries_of}
use Rattle.connection_messages.proofs.read.entry.read_entries.Given as goal

abbrev pub invariant-loop-value : goal.invariant-loop-value
invariant-loop-value l = l.entries.items ≡ entries_of l.rules (items_view (take l.value-index l.values))
