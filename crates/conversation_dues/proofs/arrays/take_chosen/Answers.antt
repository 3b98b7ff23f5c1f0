use Rattle.std.specs.List.{slice_get}
use Rattle.conversation_contents.specs.Left.{index_of, left_entries, places_of}
use Rattle.conversation_dues.specs.Left.{choice}
use Rattle.conversation_dues.proofs.Left.{chosen}
use Rattle.conversation_dues.proofs.arrays.take_chosen.Goals as goal

pub returns-in-Some-clause-taken : goal.returns-in-Some-clause-taken
returns-in-Some-clause-taken c = λ left is.
    chosen (choice c.args.which) (slice_get c.args.entries.now) (places_of c.args.places.now) (places_of c.take.new.self) c.args.id.now left (index_of c.in-Some.number (left_entries c.args.places.now))
    (c.in-Some.ensures left is) is c.take.ensures.places
