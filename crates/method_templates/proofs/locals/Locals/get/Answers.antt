use Rattle.std.proofs.Common.{◌≡◌, ◌+◌, ◌∷◌, drop, Some, unwrap_or, sym, ap, ◌∙◌}
use Rattle.std.proofs.lemmas.List.{drop_more}
use Rattle.method_templates.specs.declared.locals.Row.{Row}
use Rattle.method_templates.proofs.Rows.{scan_finds, scan_goes_on, same_names, other_names}
use Rattle.method_templates.proofs.locals.Locals.get.Goals as goal

pub returns-in-Some : goal.returns-in-Some
returns-in-Some c =
    let rows = c.deref-row-items.result.now in
    let i = c.loop-row.row-index in
    let r : Row = c.row-item.result in
    let here : drop i rows ≡ r ∷ drop (i + 1) rows = drop_more rows i r c.loop-row-test.true ∙ ap (λ x. x ∷ drop (i + 1) rows) (sym c.row-item.is) in
    let same : c.args.name.now ≡ r.name = sym c.as_bytes-in-loop-row.ensures.value ∙ sym (same_names _ _ _ c.eq.ensures c.if-eq.true) ∙ c.as_bytes.ensures in
    sym (sym c.loop-row.invariant ∙ scan_finds c.args.name.now c.args.lent.now rows i r here same ∙ ap (λ v. Some (unwrap_or v c.args.lent.now)) c.in-Some.is)

pub returns-in-None : goal.returns-in-None
returns-in-None c =
    let rows = c.deref-row-items.result.now in
    let i = c.loop-row.row-index in
    let r : Row = c.row-item.result in
    let here : drop i rows ≡ r ∷ drop (i + 1) rows = drop_more rows i r c.loop-row-test.true ∙ ap (λ x. x ∷ drop (i + 1) rows) (sym c.row-item.is) in
    let same : c.args.name.now ≡ r.name = sym c.as_bytes-in-loop-row.ensures.value ∙ sym (same_names _ _ _ c.eq.ensures c.if-eq.true) ∙ c.as_bytes.ensures in
    sym (sym c.loop-row.invariant ∙ scan_finds c.args.name.now c.args.lent.now rows i r here same ∙ ap (λ v. Some (unwrap_or v c.args.lent.now)) c.in-None.is)

pub loop-row-preserved : goal.loop-row-preserved
loop-row-preserved c =
    let rows = c.deref-row-items.result.now in
    let i = c.loop-row.row-index in
    let r : Row = c.row-item.result in
    let here : drop i rows ≡ r ∷ drop (i + 1) rows = drop_more rows i r c.loop-row-test.true ∙ ap (λ x. x ∷ drop (i + 1) rows) (sym c.row-item.is) in
    scan_goes_on c.args.name.now c.args.lent.now rows i r here (λ same. other_names _ _ _ c.eq.ensures c.if-eq.false (c.as_bytes.ensures ∙ sym same ∙ sym c.as_bytes-in-loop-row.ensures.value)) ∙ c.loop-row.invariant
