use Rattle.std.proofs.Common.{Some, ap, sym, ◌∙◌}
use Rattle.number_windows.proofs.Rows.{at_index}
use Rattle.number_windows.proofs.block.get.Goals as goal

pub returns-in-Some : goal.returns-in-Some
returns-in-Some g c =
    let items = c.args.block.now.items in
    let entry = c.index.result.now in
    let found = c.in-Some.ensures.found in
    ap (λ e. Some e.1) c.index.ensures ∙ sym (at_index c.args.number items c.in-Some.index entry c.requires found.0 (found.1 entry))
