use Rattle.std.proofs.Common.{refl, sym, ap, ◌∙◌, arith, not, ◌==◌}
use lib.Count.{count_trailing_zeros}
use Rattle.json_texts.proofs.Blanks.{is_32, spaces_passed, spaces_so_far}
use Rattle.json_texts.proofs.Runs.{run_bound, run_through, run_stops}
use Rattle.json_texts.proofs.compacting.spaces_end.Goals as goal

pub returns-then-others-ne0-clause-value : goal.returns-then-others-ne0-clause-value
returns-then-others-ne0-clause-value c =
    let others = c.others_than_spaces-others in
    let run = run_stops (λ x. not (x == 32)) is_32 (λ x. refl) c.args.text.now c.loop-at.at 16 (omega arith) (omega arith) (omega (arith, others.ensures)) ∙ ap (count_trailing_zeros 64) (sym others.ensures) in
    spaces_passed c.args.text.now c.args.from _ (omega (arith, run, c.loop-at.invariant.0))

pub returns-then-others-ne0-clause-bounds : goal.returns-then-others-ne0-clause-bounds
returns-then-others-ne0-clause-bounds c =
    let others = c.others_than_spaces-others in
    let run = run_stops (λ x. not (x == 32)) is_32 (λ x. refl) c.args.text.now c.loop-at.at 16 (omega arith) (omega arith) (omega (arith, others.ensures)) ∙ ap (count_trailing_zeros 64) (sym others.ensures) in
    (omega (arith, c.loop-at.invariant.1), omega (arith, run, run_bound is_32 c.args.text.now c.loop-at.at c.loop-at.invariant.2))

pub loop-at-preserved : goal.loop-at-preserved
loop-at-preserved c =
    let run = run_through (λ x. not (x == 32)) is_32 (λ x. refl) c.args.text.now c.loop-at.at 16 (omega arith) (omega (arith, c.others_than_spaces-others.ensures)) in
    (omega (arith, run, c.loop-at.invariant.0), omega arith, omega arith)

pub returns-clause-value : goal.returns-clause-value
returns-clause-value c = spaces_so_far c.args.text.now c.args.from c.loop-at.at c.loop-at.invariant.0
