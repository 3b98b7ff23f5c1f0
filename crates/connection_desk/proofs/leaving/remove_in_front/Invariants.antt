use Rattle.std.proofs.Common.{◌≡◌, length}
use Rattle.connection_desk.specs.Inner.{rest_of}
use Rattle.connection_desk.proofs.leaving.remove_in_front.Given as goal

abbrev pub invariant-loop-place : goal.invariant-loop-place
invariant-loop-place l = record {
  places : l.owed.places ≡ l.initial.owed.places;
  rest : rest_of l.stays l.owed.owed ≡ rest_of l.stays l.initial.owed.owed;
}

abbrev pub decreases-loop-place : goal.decreases-loop-place
decreases-loop-place l = length l.owed.owed
