use Rattle.std.proofs.Common.{◌∙◌, ap, option_map}
use Rattle.conversation_dues.specs.Found.{first_of}
use Rattle.conversation_dues.proofs.Firsts.{oldest_found, oldest_missing}
use Rattle.conversation_open.specs.Open.{open_entries}
use Rattle.conversation_ids.specs.Ways.{fits}
use Rattle.conversation_dues.proofs.targets.oldest.Goals as goal

pub returns-in-Some : goal.returns-in-Some
returns-in-Some c =
    let es = open_entries c.args.contents.now in
    oldest_found c.args.batches (fits c.args.way c.args.id.now) c.in-Some.number es c.requires.window.ordered
    (c.in-Some.ensures ∙ ap (λ f. option_map (λ found. found.0) (first_of f es)) (c.entry.ensures c.args.id.now))

pub returns-in-None : goal.returns-in-None
returns-in-None c =
    let es = open_entries c.args.contents.now in
    oldest_missing c.args.batches (fits c.args.way c.args.id.now) es c.requires.window.ordered
    (c.in-None.ensures ∙ ap (λ f. option_map (λ found. found.0) (first_of f es)) (c.entry.ensures c.args.id.now))
