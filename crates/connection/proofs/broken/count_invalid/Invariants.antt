use Rattle.std.proofs.Common.{◌≡◌, ◌≤◌, length, take}
use Rattle.std.specs.Prelude.{filter}
use Rattle.connection_history.specs.Stream.{is_invalid}
use Rattle.connection.proofs.broken.count_invalid.Given as goal

abbrev pub invariant-loop-entry : goal.invariant-loop-entry
invariant-loop-entry l = record { count : l.count ≡ length (filter is_invalid (take l.entry-index l.entries)); few : l.count ≤ l.entry-index }
