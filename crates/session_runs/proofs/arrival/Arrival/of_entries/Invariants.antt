use Rattle.std.proofs.Common.{◌≡◌, ◌+◌, map, take}
use Rattle.rpc_messages.specs.Entry.{entry_seen}
use Rattle.rpc_messages.specs.Numbering.{numbers_in}
use Rattle.peer_events.specs.Taking.{places_of_entries, stages_for}
use Rattle.session_runs.proofs.arrival.Arrival.of_entries.Given as goal

-- the entries so far have their places and stages
abbrev pub invariant-loop-entry : goal.invariant-loop-entry
invariant-loop-entry l = record {
  places : l.arrival.places.items ≡ places_of_entries l.table (map entry_seen (take l.entry-index l.entries));
  stages : l.arrival.stages.items ≡ stages_for l.table l.first (map entry_seen (take l.entry-index l.entries));
  next : l.arrival.next ≡ l.first + numbers_in (map entry_seen (take l.entry-index l.entries));
}
