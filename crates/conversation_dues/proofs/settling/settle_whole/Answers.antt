use Rattle.conversation_dues.proofs.Firsts.{whole_settled}
use Rattle.conversation_open.specs.Open.{open_entries}
use Rattle.conversation_dues.proofs.settling.settle_whole.Goals as goal

pub returns-clause-settled : goal.returns-clause-settled
returns-clause-settled c = whole_settled c.args.number (open_entries c.args.contents.now) (open_entries c.remove.new.self) c.requires.window.ordered c.remove.ensures.entries
