use Rattle.std.specs.Option.{option_to_list}
use Rattle.content_streams.proofs.Rows.{first_taken, last_taken, other_taken}
use Rattle.content_streams.proofs.row.Row.pop.Goals as goal

pub returns-then-is_some-clause-items : goal.returns-then-is_some-clause-items
returns-then-is_some-clause-items c =
    let row = c.args.self.now in
    first_taken row.waiting row.added.others (option_to_list row.last) row.added.first c.if-not-is_empty.ensures c.if-is_some.ensures

pub returns-then-not-is_empty-2-clause-items : goal.returns-then-not-is_empty-2-clause-items
returns-then-not-is_empty-2-clause-items c =
    let row = c.args.self.now in
    other_taken row.waiting row.added.others c.pop-then-not-is_empty-2.new.self (option_to_list row.last) row.added.first c.if-not-is_empty.ensures c.if-is_some.ensures c.if-not-is_empty-2.ensures c.pop-then-not-is_empty-2.ensures

pub returns-else-not-is_empty-2-clause-items : goal.returns-else-not-is_empty-2-clause-items
returns-else-not-is_empty-2-clause-items c =
    let row = c.args.self.now in
    last_taken row.waiting row.added.others row.added.first row.last c.if-not-is_empty.ensures c.if-is_some.ensures c.if-not-is_empty-2.ensures
