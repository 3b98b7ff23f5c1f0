use Rattle.std.proofs.Common.{◌≡◌, ◌+◌, ◌≤◌, length, filter, drop}
use Rattle.connection_desk.specs.Inner.{is_telling}
use Rattle.connection_desk.proofs.intake.telling_among.Given as goal

-- those so far and those that are left are all
abbrev pub invariant-loop-entry : goal.invariant-loop-entry
invariant-loop-entry l = record {
  count : l.count + length (filter is_telling (drop l.entry-index l.entries)) ≡ length (filter is_telling l.entries);
  few : l.count ≤ l.entry-index;
}
