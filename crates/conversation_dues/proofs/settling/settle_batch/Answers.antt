use Rattle.std.proofs.Common.{◌≡◌, ◌∙◌, ap, sym, Some, option_map}
use Rattle.std.specs.List.{slice_get}
use Rattle.std.specs.Option.{option_and_then}
use Rattle.conversation_contents.proofs.Lists.{at_index, removed_is}
use Rattle.conversation_contents.specs.Left.{index_of}
use Rattle.conversation_open.specs.Open.{open_entries, contents_of}
use Rattle.conversation_rules.specs.Dues.{array_target, array_fits, settled_batch}
use Rattle.conversation_dues.proofs.settling.settle_batch.Goals as goal

pub returns-clause-found : goal.returns-clause-found
returns-clause-found c =
    let es = open_entries c.args.contents.now in
    let ids = c.args.ids.now in
    let target : array_target ids (contents_of es) ≡ Some (index_of c.in-Some.number es) = c.in_ok-number.ensures ∙ ap (option_map (λ n. index_of n es)) c.in-Some.is in
    c.in_ok-fits.ensures
    ∙ ap (option_map (array_fits ids)) (sym (at_index c.in-Some.number es))
    ∙ ap (λ t. option_map (array_fits ids) (option_and_then (slice_get (contents_of es)) t)) (sym target)

pub returns-clause-settled : goal.returns-clause-settled
returns-clause-settled c =
    let es = open_entries c.args.contents.now in
    let target : array_target c.args.ids.now (contents_of es) ≡ Some (index_of c.in-Some.number es) = c.in_ok-number.ensures ∙ ap (option_map (λ n. index_of n es)) c.in-Some.is in
    ap contents_of c.remove.ensures.entries ∙ sym (removed_is c.in-Some.number es c.requires.window.ordered) ∙ ap (λ t. settled_batch t (contents_of es)) (sym target)
