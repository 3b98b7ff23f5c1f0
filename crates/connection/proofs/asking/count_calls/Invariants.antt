use Rattle.std.proofs.Common.{◌≡◌, ◌≤◌, length, take}
use Rattle.connection_history.specs.Stream.{calls_in}
use Rattle.connection.proofs.asking.count_calls.Given as goal

abbrev pub invariant-loop-entry : goal.invariant-loop-entry
invariant-loop-entry l = record { count : l.count ≡ length (calls_in (take l.entry-index l.entries)); few : l.count ≤ l.entry-index }
