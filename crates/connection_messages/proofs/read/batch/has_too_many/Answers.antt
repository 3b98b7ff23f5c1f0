use Rattle.std.proofs.Common.{sym, ◌∙◌}
use Rattle.connection_messages.proofs.Counted.{too_many_is}
use Rattle.connection_messages.proofs.read.batch.has_too_many.Goals as goal

pub returns-in-Some : goal.returns-in-Some
returns-in-Some c over = too_many_is c.args.rules c.args.text.now c.in-Some.count c.in-Some.ensures (sym c.are_too_many-in-Some.ensures ∙ over)
