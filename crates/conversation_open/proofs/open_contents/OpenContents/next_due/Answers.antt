use Rattle.conversation_open.specs.Open.{open_entries}
use Rattle.conversation_open.proofs.Indexed.{next_due_in, next_due_uncancelled}
use Rattle.conversation_open.proofs.open_contents.OpenContents.next_due.Goals as goal

pub returns-then-self : goal.returns-then-self
returns-then-self c =
    next_due_uncancelled c.args.self.now.index (open_entries c.args.self.now) c.requires.indexed c.args.among c.args.mark c.args.after c.next.result (c.requires.uncancelled c.if-self.true) c.next.ensures

pub returns-else-self : goal.returns-else-self
returns-else-self c =
    next_due_in c.args.self.now.index (open_entries c.args.self.now) c.requires.indexed c.args.among c.args.mark c.args.after c.next-else-self.result c.next-else-self.ensures
