use Rattle.std.proofs.Common.{◌≡◌, ℕ, ◌≤◌, List, length, map}
use Rattle.json.specs.Json.{items, value, parse_map}
use Rattle.serde_json.specs.Data.{Data}
use Rattle.serde_json.specs.Read.{of_items, converted}
use Rattle.rpc_messages.specs.Entry.{entry_seen, entry_of}
use Rattle.value_reading.proofs.Elements.{elements_before}
use Rattle.rpc_messages.proofs.read.read_entries.Given as goal

abbrev pub invariant-elements : goal.invariant-elements
invariant-elements l =
    (n : ℕ) × (ds : List Data) × (length l.reader ≤ n)
    × (converted of_items (items (value l.depth) (length l.initial.reader) l.initial.reader) ≡ parse_map (elements_before ds) (converted of_items (items (value l.depth) n l.reader)))
    × (map entry_seen l.entries.items ≡ map entry_of ds)

abbrev pub decreases-elements : goal.decreases-elements
decreases-elements l = length l.reader
