use Rattle.std.proofs.Common.{◌≡◌, ◌≤◌, map, take}
use Rattle.rpc_messages.specs.Entry.{entry_seen}
use Rattle.rpc_messages.specs.Numbering.{numbers_in}
use Rattle.session_runs.proofs.arrival.calls_among.Given as goal

abbrev pub invariant-loop-entry : goal.invariant-loop-entry
invariant-loop-entry l = (l.calls ≡ numbers_in (map entry_seen (take l.entry-index l.entries))) × (l.calls ≤ l.entry-index)
