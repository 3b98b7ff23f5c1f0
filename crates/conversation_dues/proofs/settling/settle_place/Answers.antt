use Rattle.std.proofs.Common.{◌∙◌, ap, sym, Some}
use Rattle.conversation_dues.specs.Found.{target_at}
use Rattle.conversation_open.specs.Open.{contents_of, open_entries}
use Rattle.conversation_rules.specs.Dues.{found, settled}
use Rattle.conversation_dues.proofs.settling.settle_place.Goals as goal

pub returns-in-WholeOf-clause-found : goal.returns-in-WholeOf-clause-found
returns-in-WholeOf-clause-found c =
    let es = open_entries c.args.contents.now in
    c.settle_whole.ensures.found ∙ ap (λ place. found (target_at c.args.id.now es (Some place)) (contents_of es)) (sym c.in-WholeOf.is)

pub returns-in-WholeOf-clause-settled : goal.returns-in-WholeOf-clause-settled
returns-in-WholeOf-clause-settled c =
    let es = open_entries c.args.contents.now in
    c.settle_whole.ensures.settled ∙ ap (λ place. settled (target_at c.args.id.now es (Some place)) (contents_of es)) (sym c.in-WholeOf.is)
