use Rattle.std.proofs.Common.{◌∙◌}
use Rattle.conversation_dues.proofs.Firsts.{any_is}
use Rattle.conversation_open.specs.Open.{open_entries}
use Rattle.conversation_dues.proofs.targets.has_huge.Goals as goal

pub returns : goal.returns
returns c = c.is_there.ensures ∙ any_is (λ due. due.has_huge) (open_entries c.args.contents.now)
