use Rattle.std.proofs.Common.{sym, ◌∙◌}
use Rattle.open_numbers.specs.Numbers.{with_marks_below}
use Rattle.open_numbers.proofs.Marks.{marks-step, marks-fewer, marks-done}
use Rattle.open_numbers.proofs.numbers.Numbers.mark.Goals as goal

pub loop-preserved : goal.loop-preserved
loop-preserved c =
    marks-step c.args.id.now c.args.before c.loop.self c.reach.new.self (with_marks_below c.args.id.now c.args.before c.args.self.now) c.reach.result
    (sym c.is_some.ensures ∙ c.loop-test.true) c.reach.ensures.lowest c.reach.ensures.some c.loop.invariant

pub loop-smaller : goal.loop-smaller
loop-smaller c =
    marks-fewer c.args.id.now c.args.before c.loop.self c.reach.new.self c.reach.result (sym c.is_some.ensures ∙ c.loop-test.true)
    c.reach.ensures.lowest c.reach.ensures.some

pub returns : goal.returns
returns c =
    marks-done c.args.id.now c.args.before c.loop.self c.reach.new.self (with_marks_below c.args.id.now c.args.before c.args.self.now) c.reach.result
    (sym c.is_some.ensures ∙ c.loop-test.false) c.reach.ensures.lowest c.reach.ensures.none c.loop.invariant
