use Rattle.std.proofs.Common.{◌≡◌, ◌∙◌, ap, sym, position, None, true, if◌then◌else◌}
use Rattle.std.specs.Prelude.{is_some, not}
use Rattle.std.specs.List.{list_any}
use Rattle.conversation_ids.specs.Ways.{fits}
use Rattle.conversation_contents.proofs.Lists.{any_position}
use Rattle.conversation_contents.proofs.due.Due.has.Goals as goal

pub returns-then-is_of : goal.returns-then-is_of
returns-then-is_of c =
    let due = c.args.self.now in
    let passes = fits c.args.way c.args.id.now in
    let kind : (if c.args.batches then due.is_batch else not due.is_batch) ≡ true = sym c.is_of.ensures ∙ c.if-is_of.true in
    c.any.ensures ∙ ap (λ d. list_any passes d.entries) c.self.view_is ∙ sym (any_position passes due.entries)
    ∙ sym (ap (λ b. is_some (if b then position passes due.entries else None)) kind)
