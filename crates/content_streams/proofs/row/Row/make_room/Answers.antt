use Rattle.std.proofs.Common.{List, ◌++◌, ap, sym, ◌∙◌}
use Rattle.std.specs.Option.{option_to_list}
use Rattle.lsp_frames.specs.Feeds.{fed_frames}
use Rattle.lsp_frames.specs.declared.frame.Frame.{Frame}
use Rattle.content_streams.proofs.Rows.{none_waits}
use Rattle.content_streams.proofs.row.Row.make_room.Goals as goal

pub returns-then-is_empty-clause-items : goal.returns-then-is_empty-clause-items
returns-then-is_empty-clause-items c =
    let row = c.move_added.new.self in
    ap (λ (ws : List Frame). ws ++ fed_frames row.added ++ option_to_list row.last) (c.take.ensures.none ∙ sym (none_waits row.waiting c.if-is_empty.ensures)) ∙ c.move_added.ensures.items

pub returns-then-is_empty-clause-room : goal.returns-then-is_empty-clause-room
returns-then-is_empty-clause-room c = c.take.ensures.all ∙ none_waits c.move_added.new.self.waiting c.if-is_empty.ensures
