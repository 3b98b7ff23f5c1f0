use Rattle.std.proofs.Common.{suc, Some, None, sym, ap, ◌∙◌, arith}
use Rattle.number_windows.specs.Windows.{window_entries}
use Rattle.open_calls.specs.Theirs.{is_reached}
use Rattle.open_calls.specs.Inner.{passes}
use Rattle.open_calls.proofs.Newest.{IsGap, gap, key_within, more_passed, one_more_passed, all_passed}
use Rattle.open_calls.proofs.their_calls.first_behind.Goals as goal

pub returns-then-is_open_request : goal.returns-then-is_open_request
returns-then-is_open_request c =
    let es = window_entries c.args.calls.now in
    let after = c.loop-number.after in
    let e = c.in-Some.field-0.now in
    let next : IsGap es after (Some e) = gap after es (Some e) c.requires.ordered c.in-Some.ensures in (
      omega (arith, next.0, c.loop-number.invariant.least),
      ap (passes (is_reached c.args.id.now)) next.1 ∙ sym c.is_open_request.ensures ∙ c.if-is_open_request.true,
      more_passed (is_reached c.args.id.now) es c.args.after after e c.loop-number.invariant.passed next,
    )

pub loop-number-smaller : goal.loop-number-smaller
loop-number-smaller c =
    let es = window_entries c.args.calls.now in
    let after = c.loop-number.after in
    let e = c.in-Some.field-0.now in
    let next : IsGap es after (Some e) = gap after es (Some e) c.requires.ordered c.in-Some.ensures in
    let top = c.args.calls.now.top in
    omega (arith, next.0, key_within (suc top) e.0 e.1 es c.requires.topped next.1)

pub loop-number-preserved : goal.loop-number-preserved
loop-number-preserved c =
    let es = window_entries c.args.calls.now in
    let after = c.loop-number.after in
    let e = c.in-Some.field-0.now in
    let next : IsGap es after (Some e) = gap after es (Some e) c.requires.ordered c.in-Some.ensures in
    record {
      least = omega (arith, next.0, c.loop-number.invariant.least);
      passed = one_more_passed (is_reached c.args.id.now) es c.args.after after e c.loop-number.invariant.passed next (sym c.is_open_request.ensures ∙ c.if-is_open_request.false);
    }

pub returns : goal.returns
returns c =
    let es = window_entries c.args.calls.now in
    let after = c.loop-number.after in
    all_passed (is_reached c.args.id.now) es c.args.after after c.loop-number.invariant.passed (gap after es None c.requires.ordered c.in_default.ensures)
