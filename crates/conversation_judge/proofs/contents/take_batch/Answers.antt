use Rattle.std.proofs.Common.{◌∙◌, ap}
use Rattle.conversation_entries.specs.Said.{said}
use Rattle.conversation_rules.specs.Contents.{behind_entries, counted_array, shut}
use Rattle.conversation_judge.proofs.contents.take_batch.Goals as goal

pub returns-clause-own : goal.returns-clause-own
returns-clause-own c =
    let own = said c.args.own.now in
    c.count_array.ensures own c.len-before.ensures
    ∙ ap (counted_array own)
    ((λ i. record (said c.take_entries.new.own) { owed = c.close.ensures i }) ∙ ap shut c.in_ok-take_entries.ensures.own
    ∙ (λ i. shut (behind_entries c.args.protocol 1 c.args.entries.items (record own { owed = c.in_ok-open.ensures.ok i }))))
