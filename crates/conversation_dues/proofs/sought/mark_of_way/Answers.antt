use Rattle.std.proofs.Common.{◌∙◌, ap, sym}
use Rattle.conversation_dues.proofs.Marked.{way_none}
use Rattle.conversation_ids.specs.OwedMarks.{entry_has}
use Rattle.conversation_ids.specs.Ways.{fits}
use Rattle.conversation_ids.specs.declared.ways.Way.TheVariants.{Must, Asks, Expects, MayHave, Unnamed}
use Rattle.conversation_dues.proofs.sought.mark_of_way.Goals as goal

pub returns-in-Must : goal.returns-in-Must
returns-in-Must c = λ owed none.
    ap (λ way. fits way c.args.id.now owed) c.in-Must.is ∙ way_none Must c.args.id.now owed (ap (λ mark. entry_has mark owed) (sym c.mark_of.ensures) ∙ none)

pub returns-in-Asks : goal.returns-in-Asks
returns-in-Asks c = λ owed none.
    ap (λ way. fits way c.args.id.now owed) c.in-Asks.is ∙ way_none Asks c.args.id.now owed (ap (λ mark. entry_has mark owed) (sym c.mark_of-in-Asks.ensures) ∙ none)

pub returns-in-Expects : goal.returns-in-Expects
returns-in-Expects c = λ owed none.
    ap (λ way. fits way c.args.id.now owed) c.in-Expects.is ∙ way_none Expects c.args.id.now owed (ap (λ mark. entry_has mark owed) (sym c.mark_of-in-Expects.ensures) ∙ none)

pub returns-in-MayHave : goal.returns-in-MayHave
returns-in-MayHave c = λ owed none.
    ap (λ way. fits way c.args.id.now owed) c.in-MayHave.is ∙ way_none MayHave c.args.id.now owed (ap (λ mark. entry_has mark owed) (sym c.mark_of-in-MayHave.ensures) ∙ none)

pub returns-in-Unnamed : goal.returns-in-Unnamed
returns-in-Unnamed c = λ owed none.
    ap (λ way. fits way c.args.id.now owed) c.in-Unnamed.is ∙ way_none Unnamed c.args.id.now owed (ap (λ mark. entry_has mark owed) (sym c.null_mark-in-Unnamed.ensures) ∙ none)
