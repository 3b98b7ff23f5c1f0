use Rattle.std.proofs.Common.{◌∙◌}
use Rattle.conversation_contents.proofs.Indexes.{any_found}
use Rattle.conversation_contents.proofs.content_entries.any_left.Goals as goal

pub returns : goal.returns
returns c = c.is_some.ensures ∙ any_found c.args.slots.now c.args.left.now c.args.look c.args.id.now c.first.result c.requires.places c.first.ensures
