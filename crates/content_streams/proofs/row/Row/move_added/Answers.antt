use Rattle.std.specs.Option.{option_to_list}
use Rattle.content_streams.proofs.Rows.{none_added, swapped}
use Rattle.content_streams.proofs.row.Row.move_added.Goals as goal

pub returns-then-is_none-clause-items : goal.returns-then-is_none-clause-items
returns-then-is_none-clause-items c =
    let row = c.args.self.now in
    swapped row.waiting row.added.others c.swap.new.x c.swap.new.y (option_to_list row.last) row.added.first c.if-is_empty.ensures c.if-is_none.ensures c.swap.ensures.x_after c.swap.ensures.y_after

pub returns-then-is_none-clause-room : goal.returns-then-is_none-clause-room
returns-then-is_none-clause-room c = none_added c.args.self.now.waiting c.swap.new.y c.args.self.now.added.first c.if-is_empty.ensures c.if-is_none.ensures c.swap.ensures.y_after
