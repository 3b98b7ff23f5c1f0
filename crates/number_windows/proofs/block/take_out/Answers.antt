use Rattle.std.proofs.Common.{ℕ, Some, ap, sym, ◌∙◌}
use Rattle.number_windows.proofs.Rows.{at_index, without_index, without_missing}
use Rattle.number_windows.proofs.block.take_out.Goals as goal

pub returns-in_err-index-clause-items : goal.returns-in_err-index-clause-items
returns-in_err-index-clause-items g c = sym (without_missing c.args.number c.args.block.now.items c.in_err-index.ensures.missing)

pub returns-clause-value : goal.returns-clause-value
returns-clause-value g c =
    let items = c.args.block.now.items in
    let found = c.in_ok-index.ensures.found in
    let entry : ℕ × g.row.T.Denot = (c.in_ok-value.field-0-0, c.in_ok-value.value) in
    ap (λ e. Some e.1) c.in_ok-value.ensures.value ∙ sym (at_index c.args.number items c.in_ok-index.index entry c.requires found.0 (found.1 entry))

pub returns-clause-items : goal.returns-clause-items
returns-clause-items g c =
    let items = c.args.block.now.items in
    let found = c.in_ok-index.ensures.found in
    let entry : ℕ × g.row.T.Denot = (c.in_ok-value.field-0-0, c.in_ok-value.value) in
    c.in_ok-value.ensures.items ∙ without_index c.args.number items c.in_ok-index.index entry c.requires found.0 (found.1 entry)
