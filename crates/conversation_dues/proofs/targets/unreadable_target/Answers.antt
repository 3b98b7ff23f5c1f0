use Rattle.std.proofs.Common.{◌∙◌, sym}
use Rattle.conversation_dues.proofs.Firsts.{whole_is}
use Rattle.conversation_open.specs.Open.{open_entries}
use Rattle.conversation_dues.proofs.targets.unreadable_target.Goals as goal

pub returns : goal.returns
returns c = whole_is (λ due. due.is_unreadable) (open_entries c.args.contents.now) c.requires.window.ordered ∙ sym c.oldest_whole.ensures
