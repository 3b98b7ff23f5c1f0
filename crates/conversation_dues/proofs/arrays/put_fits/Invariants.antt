use Rattle.std.proofs.Common.{List, ◌++◌, drop}
use Rattle.std.specs.List.{slice_get}
use Rattle.conversation_rules.specs.Dues.{fits_of}
use Rattle.conversation_rules.specs.Owed.{Owed}
use Rattle.conversation_dues.specs.Left.{ids_of, left_of}
use Rattle.conversation_contents.specs.Left.{IsFindable, IsLeftOf, places_of}
use Rattle.conversation_dues.proofs.Fits.{IsToldTo}
use Rattle.conversation_dues.proofs.arrays.put_fits.Given as goal

abbrev pub invariant-loop-id : goal.invariant-loop-id
invariant-loop-id l = record {
  findable : IsFindable (slice_get l.entries) l.places;
  told : (left : List Owed) → IsLeftOf (slice_get l.entries) (places_of l.fn.places) left →
      IsToldTo l.due (slice_get l.entries) (places_of l.places) l.fits.items (ids_of l.which (drop l.id-index l.ids)) (left_of (ids_of l.which l.ids) left) (l.fn.fits.items ++ fits_of l.due (ids_of l.which l.ids) left);
}
