use Rattle.conversation_contents.proofs.Indexes.{places_if_ok}
use Rattle.conversation_contents.proofs.content_entries.places_left.Goals as goal

pub returns : goal.returns
returns c = places_if_ok c.args.slots.now c.args.left.now c.places.result c.requires.places c.places.ensures
