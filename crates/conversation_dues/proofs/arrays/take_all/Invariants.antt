use Rattle.std.proofs.Common.{List, drop}
use Rattle.std.specs.List.{slice_get}
use Rattle.conversation_rules.specs.Owed.{Owed}
use Rattle.conversation_dues.specs.Left.{all_taken, choice, ids_of}
use Rattle.conversation_contents.specs.Left.{IsFindable, IsLeftOf, places_of}
use Rattle.conversation_dues.proofs.Left.{OnTheWay}
use Rattle.conversation_dues.proofs.arrays.take_all.Given as goal

abbrev pub invariant-loop-id : goal.invariant-loop-id
invariant-loop-id l = record {
  findable : IsFindable (slice_get l.entries) l.places;
  taken : (left : List Owed) → IsLeftOf (slice_get l.entries) (places_of l.fn.places) left →
      OnTheWay (choice l.which) (slice_get l.entries) (places_of l.places) (ids_of l.which (drop l.id-index l.ids)) (all_taken (choice l.which) (ids_of l.which l.ids) left);
}
