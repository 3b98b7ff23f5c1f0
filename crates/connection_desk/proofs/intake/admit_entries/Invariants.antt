use Rattle.std.proofs.Common.{◌≡◌, ◌+◌, ◌++◌, length, drop}
use Rattle.std.specs.List.{flat_map}
use Rattle.connection_history.specs.Stream.{calls_in}
use Rattle.connection_steps.specs.Steps.{new_slots}
use Rattle.connection_desk.specs.Inner.{IsLonger, added_calls}
use Rattle.connection_desk.proofs.intake.admit_entries.Given as goal

abbrev pub invariant-loop-entry : goal.invariant-loop-entry
invariant-loop-entry l =
    let rest = drop l.entry-index l.entries in
    record {
      longer : IsLonger l.fn.theirs l.theirs;
      came : l.theirs.came + length (calls_in rest) ≡ l.fn.theirs.came + length (calls_in l.entries);
      calls : l.theirs.calls ++ added_calls l.place (length l.batch) l.theirs.came rest ≡ l.fn.theirs.calls ++ added_calls l.place 0 l.fn.theirs.came l.entries;
      slots : l.batch ++ flat_map new_slots rest ≡ flat_map new_slots l.entries;
    }
