use Rattle.conversation_open.specs.Open.{open_entries}
use Rattle.conversation_open.proofs.Indexed.{next_in}
use Rattle.conversation_open.proofs.open_contents.OpenContents.next_with.Goals as goal

pub returns : goal.returns
returns c = next_in c.args.self.now.index (open_entries c.args.self.now) c.requires.indexed c.args.among c.args.mark c.args.after c.next.result c.next.ensures
