use Rattle.std.proofs.Common.{sym, ◌∙◌}
use Rattle.connection_messages.proofs.Members.{too_many_values}
use Rattle.connection_messages.proofs.read.unit.read_batch.Goals as goal

pub returns-then-are_too_many : goal.returns-then-are_too_many
returns-then-are_too_many c = too_many_values c.args.rules c.args.values.now (sym c.are_too_many.ensures ∙ c.if-are_too_many.true)
