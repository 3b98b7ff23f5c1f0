use Rattle.std.proofs.Common.{◌≤◌, List, [], ◌∷◌, length, arith}
use Rattle.answer_desk.specs.declared.shape.Place.{Place}
use Rattle.answer_desk.specs.declared.shape.Place.TheVariants.{Unreadable, Invalid, Silent, Numbered}
use Rattle.answer_desk.specs.Places.{new_numbers}
use Rattle.library_rows.proofs.desk.open.Goals as goal

no_more_calls_than_places : (places : List Place) → length (new_numbers places) ≤ length places
no_more_calls_than_places [] = omega arith
no_more_calls_than_places (Unreadable ∷ places) = omega (arith, no_more_calls_than_places places)
no_more_calls_than_places (Invalid ∷ places) = omega (arith, no_more_calls_than_places places)
no_more_calls_than_places (Silent ∷ places) = omega (arith, no_more_calls_than_places places)
no_more_calls_than_places (Numbered id most ∷ places) = omega (arith, no_more_calls_than_places places)

pub open_unit-requires : goal.open_unit-requires
open_unit-requires c =
    rw c.from-places.ensures (omega (arith, no_more_calls_than_places c.args.places.items, c.next_number.ensures, c.len.ensures, c.args.places.ok))
