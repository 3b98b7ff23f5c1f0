use Rattle.std.proofs.Common.{suc, Some, None, ap, ◌∙◌, arith, eq-eqb}
use Rattle.std.proofs.lemmas.Bool.{ne_eqb}
use Rattle.number_windows.specs.Windows.{window_entries}
use Rattle.open_calls.specs.Inner.{is_of}
use Rattle.open_calls.specs.Inner.{passes}
use Rattle.open_calls.proofs.Newest.{IsGap, gap, key_within, more_passed, one_more_passed, all_passed}
use Rattle.open_calls.proofs.own_calls.first_behind.Goals as goal

pub returns-then-call-caller : goal.returns-then-call-caller
returns-then-call-caller c =
    let es = window_entries c.args.waiting.now in
    let after = c.loop-key.after in
    let e = c.in-Some.field-0.now in
    let next : IsGap es after (Some e) = gap after es (Some e) c.requires.ordered c.in-Some.ensures in (
      omega (arith, next.0, c.loop-key.invariant.least),
      ap (passes (is_of c.args.caller)) next.1 ∙ eq-eqb e.1.caller c.args.caller c.if-call-caller.true,
      more_passed (is_of c.args.caller) es c.args.after after e c.loop-key.invariant.passed next,
    )

pub loop-key-smaller : goal.loop-key-smaller
loop-key-smaller c =
    let es = window_entries c.args.waiting.now in
    let after = c.loop-key.after in
    let e = c.in-Some.field-0.now in
    let next : IsGap es after (Some e) = gap after es (Some e) c.requires.ordered c.in-Some.ensures in
    let top = c.args.waiting.now.top in
    omega (arith, next.0, key_within (suc top) e.0 e.1 es c.requires.topped next.1)

pub loop-key-preserved : goal.loop-key-preserved
loop-key-preserved c =
    let es = window_entries c.args.waiting.now in
    let after = c.loop-key.after in
    let e = c.in-Some.field-0.now in
    let next : IsGap es after (Some e) = gap after es (Some e) c.requires.ordered c.in-Some.ensures in
    record {
      least = omega (arith, next.0, c.loop-key.invariant.least);
      passed = one_more_passed (is_of c.args.caller) es c.args.after after e c.loop-key.invariant.passed next (ne_eqb e.1.caller c.args.caller c.if-call-caller.false);
    }

pub returns : goal.returns
returns c =
    let es = window_entries c.args.waiting.now in
    let after = c.loop-key.after in
    all_passed (is_of c.args.caller) es c.args.after after c.loop-key.invariant.passed (gap after es None c.requires.ordered c.in_default.ensures)
