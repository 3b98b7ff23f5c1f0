use Rattle.std.proofs.Common.{◌∙◌, ap}
use Rattle.std.specs.Prelude.{is_some}
use Rattle.conversation_dues.proofs.Firsts.{found_some}
use Rattle.conversation_dues.specs.Found.{first_of, place_of}
use Rattle.conversation_open.specs.Open.{open_entries}
use Rattle.conversation_dues.proofs.sought.is_there.Goals as goal

pub returns : goal.returns
returns c = c.is_some.ensures ∙ ap is_some c.first.ensures ∙ found_some (first_of (place_of c.args.sought c.args.id.now) (open_entries c.args.contents.now))
