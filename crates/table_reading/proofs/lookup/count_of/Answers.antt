use Rattle.std.proofs.Common.{rules}
use Rattle.table_reading.proofs.ItemsLaws.{items_len-view}
use Rattle.table_reading.proofs.lookup.count_of.Goals as goal

pub returns-clause-number : goal.returns-clause-number
returns-clause-number c = rw (items_len-view c.args.items.now) (search rules)
