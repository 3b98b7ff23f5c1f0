use Rattle.std.proofs.Common.{◌≡◌, ◌+◌, drop}
use Rattle.connection_history.specs.Events.{first_invalid}
use Rattle.connection.proofs.broken.first_invalid.Given as goal

abbrev pub invariant-loop-entry : goal.invariant-loop-entry
invariant-loop-entry l =
    record { first : l.first ≡ l.entry-index; passed : first_invalid l.entries ≡ l.entry-index + first_invalid (drop l.entry-index l.entries) }
