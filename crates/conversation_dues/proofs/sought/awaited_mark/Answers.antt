use Rattle.std.proofs.Common.{◌∙◌, ap, sym}
use Rattle.std.specs.List.{list_any}
use Rattle.conversation_dues.proofs.Marked.{due_none}
use Rattle.conversation_ids.specs.Ways.{fits}
use Rattle.conversation_open.specs.Open.{is_due_by}
use Rattle.conversation_rules.specs.Matching.{place_in}
use Rattle.conversation_dues.proofs.sought.awaited_mark.Goals as goal

pub returns-in-Must : goal.returns-in-Must
returns-in-Must c = λ batches due none.
    ap (λ way. place_in batches (fits way c.args.id.now) due) c.in-Must.is
    ∙ due_none batches c.args.id.now due (ap (λ mark. list_any (is_due_by mark) due.entries) (sym c.mark_of.ensures) ∙ none)
