use Rattle.std.proofs.Common.{Some, ap, sym, ◌∙◌, set}
use Rattle.number_windows.proofs.Numbered.{unchanged}
use Rattle.number_windows.proofs.Rows.{at_index, changed_index}
use Rattle.number_windows.proofs.block.put_in.Goals as goal

pub returns-in-Some-clause-was : goal.returns-in-Some-clause-was
returns-in-Some-clause-was g c =
    let items = c.args.block.now.items in
    let found = c.in-Some.ensures.found in
    let entry = c.index_mut.result.now in
    at_index c.args.number items c.in-Some.index entry c.requires found.0 (found.1 entry) ∙ ap (λ e. Some e.1) (sym c.index_mut.ensures.value) ∙ ap Some (sym c.replace.ensures.value)

pub returns-in-Some-clause-items : goal.returns-in-Some-clause-items
returns-in-Some-clause-items g c =
    let items = c.args.block.now.items in
    let found = c.in-Some.ensures.found in
    let entry = c.index_mut.result.now in
    ap (λ v. set items c.in-Some.index (entry.0, v)) c.replace.ensures.after
    ∙ ap (λ e. set items c.in-Some.index (e.0, c.args.value)) c.index_mut.ensures.value
    ∙ changed_index c.args.number (λ _. c.args.value) items c.in-Some.index entry c.requires found.0 (found.1 entry)

pub returns-in-None-clause-items : goal.returns-in-None-clause-items
returns-in-None-clause-items g c = unchanged c.args.number (λ _. c.args.value) c.args.block.now.items c.in-None.ensures.missing
