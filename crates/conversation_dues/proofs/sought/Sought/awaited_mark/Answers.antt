use Rattle.std.proofs.Common.{◌≡◌, ◌∙◌, Bool, true, false, None, ap}
use Rattle.std.specs.List.{list_any}
use Rattle.conversation_dues.proofs.Marked.{if_some}
use Rattle.conversation_dues.specs.Found.{place_of}
use Rattle.conversation_ids.specs.Ways.{fits}
use Rattle.conversation_open.specs.Open.{is_due_by}
use Rattle.conversation_rules.specs.Matching.{place_in}
use Rattle.conversation_rules.specs.Owed.{Due}
use Rattle.conversation_dues.proofs.sought.Sought.awaited_mark.Goals as goal

pub returns-in-Single : goal.returns-in-Single
returns-in-Single c =
    if_some (λ mark. (batches : Bool) (due : Due) → list_any (is_due_by mark) due.entries ≡ false → place_in batches (fits c.in-Single.way c.args.id.now) due ≡ None)
    (λ mark. (due : Due) → list_any (is_due_by mark) due.entries ≡ false → place_of c.args.self c.args.id.now due ≡ None) c.awaited_mark.result
    (λ mark is due none. ap (λ sought. place_of sought c.args.id.now due) c.in-Single.is ∙ is false due none) c.awaited_mark.ensures

pub returns-in-InBatch : goal.returns-in-InBatch
returns-in-InBatch c =
    if_some (λ mark. (batches : Bool) (due : Due) → list_any (is_due_by mark) due.entries ≡ false → place_in batches (fits c.in-InBatch.way c.args.id.now) due ≡ None)
    (λ mark. (due : Due) → list_any (is_due_by mark) due.entries ≡ false → place_of c.args.self c.args.id.now due ≡ None) c.awaited_mark-in-InBatch.result
    (λ mark is due none. ap (λ sought. place_of sought c.args.id.now due) c.in-InBatch.is ∙ is true due none) c.awaited_mark-in-InBatch.ensures
