use Rattle.std.proofs.Common.{◌≡◌, ◌+◌, take}
use Rattle.std.specs.List.{slice_get}
use Rattle.number_windows.specs.Numbered.{Below}
use Rattle.conversation_contents.specs.Left.{IsFindable, left_entries, places_of}
use Rattle.conversation_contents.proofs.what_is_left.Left.of.Given as goal

abbrev pub invariant-loop-count : goal.invariant-loop-count
invariant-loop-count l = record {
  findable : IsFindable (slice_get l.entries) l.left;
  below : Below (l.count + 1) (left_entries l.left);
  places : places_of l.left ≡ take l.count l.places;
}
