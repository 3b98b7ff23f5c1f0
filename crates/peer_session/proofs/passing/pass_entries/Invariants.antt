use Rattle.std.proofs.Common.{◌≡◌, ◌+◌, ◌++◌, map}
use Rattle.std.specs.Vec.Iter.{into_iter_items}
use Rattle.rpc_messages.specs.Entry.{entry_seen}
use Rattle.rpc_messages.specs.Numbering.{numbers_in}
use Rattle.peer_events.specs.Taking.{PassesEntries}
use Rattle.peer_session.proofs.passing.pass_entries.Given as goal

-- The entries so far are passed, the next call has the number behind theirs, and the others are to come.
abbrev pub invariant-loop-entry : goal.invariant-loop-entry
invariant-loop-entry l =
    PassesEntries l.initial.runs l.first (map entry_seen l.yielded) l.runs
    × (l.number ≡ l.first + numbers_in (map entry_seen l.yielded))
    × (l.fn.entries.items ≡ l.yielded ++ into_iter_items l.entry-iterator)
