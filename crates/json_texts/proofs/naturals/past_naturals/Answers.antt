use Rattle.std.proofs.Common.{◌≡◌, ◌+◌, get_or, sym, ◌∙◌, arith}
use Rattle.json_texts.proofs.NaturalRuns.{no_items, items_behind, last_behind, one_item, one_last}
use Rattle.json_texts.proofs.Placed.{byte_within}
use Rattle.json_texts.proofs.naturals.past_naturals.Goals as goal

pub loop-at-init : goal.loop-at-init
loop-at-init c = (omega arith, c.requires, no_items c.args.text.now c.args.from)

pub returns-then-is_closed-clause-last : goal.returns-then-is_closed-clause-last
returns-then-is_closed-clause-last c _ =
    last_behind c.args.text.now c.args.from c.loop-at.at c.past_due-item.result.0 c.loop-at.invariant.2 (c.past_due-item.ensures.last c.if-is_closed.true)

pub returns-then-next-eq93-clause-last : goal.returns-then-next-eq93-clause-last
returns-then-next-eq93-clause-last c _ =
    let text = c.args.text.now in
    let from = c.args.from in
    let item = c.past_due-item.result.0 in
    let end = c.in-Some.end in
    let bracket : get_or text end 0 ≡ 93 = sym c.byte_at-next.ensures ∙ c.if-next-eq93.true in
    let before = items_behind text from c.loop-at.at item c.loop-at.invariant.2 (c.past_due-item.ensures.items c.if-is_closed.false) in
    last_behind text from item (end + 1) before (one_last text item end c.in-Some.ensures.bounds.0 c.in-Some.ensures.number bracket)

pub loop-at-preserved : goal.loop-at-preserved
loop-at-preserved c =
    let text = c.args.text.now in
    let from = c.args.from in
    let at = c.loop-at.at in
    let item = c.past_due-item.result.0 in
    let end = c.in-Some.end in
    let low = c.loop-at.invariant.0 in
    let within = c.past_due-item.ensures.bounds in
    let below = c.in-Some.ensures.bounds.0 in
    let comma : get_or text end 0 ≡ 44 = sym c.byte_at-next.ensures ∙ c.if-next-ne44.false in
    let before = items_behind text from at item c.loop-at.invariant.2 (c.past_due-item.ensures.items c.if-is_closed.false) in (
      omega (arith, low, within.0, below),
      omega (arith, byte_within text end 43 comma),
      items_behind text from item (end + 1) before (one_item text item end below c.in-Some.ensures.number comma),
    )

pub returns-in_default-clause-items : goal.returns-in_default-clause-items
returns-in_default-clause-items c _ =
    items_behind c.args.text.now c.args.from c.loop-at.at c.past_due-item.result.0 c.loop-at.invariant.2 (c.past_due-item.ensures.items c.if-is_closed.false)

pub returns-then-next-ne44-clause-items : goal.returns-then-next-ne44-clause-items
returns-then-next-ne44-clause-items c _ =
    items_behind c.args.text.now c.args.from c.loop-at.at c.past_due-item.result.0 c.loop-at.invariant.2 (c.past_due-item.ensures.items c.if-is_closed.false)
