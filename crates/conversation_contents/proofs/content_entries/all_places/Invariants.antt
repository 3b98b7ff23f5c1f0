use Rattle.std.proofs.Common.{◌≡◌, Some, take, map}
use Rattle.std.specs.List.{slice_get}
use Rattle.conversation_contents.proofs.content_entries.all_places.Given as goal

abbrev pub invariant-loop-place : goal.invariant-loop-place
invariant-loop-place l = map (slice_get l.slots) l.places.items ≡ map Some (take l.place l.slots)
