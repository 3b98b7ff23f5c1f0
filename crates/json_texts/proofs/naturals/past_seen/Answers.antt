use Rattle.std.proofs.Common.{◌+◌, ◌<◌, sym, ◌∙◌, arith}
use Rattle.json_texts.proofs.NaturalRuns.{no_items, items_behind, last_behind, items_of_look, last_of_look, byte_of_look}
use Rattle.json_texts.proofs.naturals.past_seen.Goals as goal

pub loop-at-init : goal.loop-at-init
loop-at-init c = (omega arith, c.requires, no_items c.args.text.now c.args.from)

pub returns-then-text-at-eq93-clause-last : goal.returns-then-text-at-eq93-clause-last
returns-then-text-at-eq93-clause-last c _ =
    let text = c.args.text.now in
    let at = c.loop-at.at in
    let passed = c.naturals_end-passed.result in
    let bound = c.naturals_end-passed.ensures.bound in
    let some : 0 < passed = omega (arith, c.if-passed-eq0.false) in
    let last = c.naturals_end-passed.ensures.last some (byte_of_look text at 16 passed some bound ∙ c.if-text-at-eq93.true) in
    last_behind text c.args.from at (at + passed) c.loop-at.invariant.2 (last_of_look text at 16 passed (omega (arith, c.loop-at.invariant.1, c.loop-at-test.true)) bound last)

pub returns-then-passed-lt-FEW-clause-items : goal.returns-then-passed-lt-FEW-clause-items
returns-then-passed-lt-FEW-clause-items c _ =
    let text = c.args.text.now in
    let at = c.loop-at.at in
    let passed = c.naturals_end-passed.result in
    let bound = c.naturals_end-passed.ensures.bound in
    let some : 0 < passed = omega (arith, c.if-passed-eq0.false) in
    let other = c.if-text-at-eq93.false in
    let items = c.naturals_end-passed.ensures.items (λ e. other (sym (byte_of_look text at 16 passed some bound) ∙ e)) in
    items_behind text c.args.from at (at + passed) c.loop-at.invariant.2 (items_of_look text at 16 passed (omega (arith, c.loop-at.invariant.1, c.loop-at-test.true)) bound items)

pub loop-at-preserved : goal.loop-at-preserved
loop-at-preserved c =
    let text = c.args.text.now in
    let at = c.loop-at.at in
    let passed = c.naturals_end-passed.result in
    let bound = c.naturals_end-passed.ensures.bound in
    let before = c.loop-at.invariant.0 in
    let valid = c.loop-at.invariant.1 in
    let some : 0 < passed = omega (arith, c.if-passed-eq0.false) in
    let other = c.if-text-at-eq93.false in
    let items = c.naturals_end-passed.ensures.items (λ e. other (sym (byte_of_look text at 16 passed some bound) ∙ e)) in (
      omega (arith, before),
      omega (arith, valid, c.loop-at-test.true, bound),
      items_behind text c.args.from at (at + passed) c.loop-at.invariant.2 (items_of_look text at 16 passed (omega (arith, valid, c.loop-at-test.true)) bound items),
    )
