use Rattle.std.proofs.Common.{◌≡◌, Bool, true, false, not, refl, sym, ap, ◌∙◌, arith}
use Rattle.std.specs.Char.{is_ascii_digit}
use lib.Count.{count_trailing_zeros}
use Rattle.json_texts.proofs.Runs.{run_bound, run_through, run_stops}
use Rattle.json_texts.proofs.naturals.digits_end.Goals as goal

twice : (b : Bool) → b ≡ not (not b)
twice true = refl
twice false = refl

pub returns-then-others-ne0-clause-value : goal.returns-then-others-ne0-clause-value
returns-then-others-ne0-clause-value c =
    let others = c.others_of-others in
    let run = run_stops (λ x. not (is_ascii_digit x)) is_ascii_digit (λ x. twice _) c.args.text.now c.args.from 16 (omega arith) (omega arith) (omega (arith, others.ensures)) ∙ ap (count_trailing_zeros 64) (sym others.ensures) in
    omega (arith, run)

pub returns-then-others-ne0-clause-bound : goal.returns-then-others-ne0-clause-bound
returns-then-others-ne0-clause-bound c =
    let others = c.others_of-others in
    let run = run_stops (λ x. not (is_ascii_digit x)) is_ascii_digit (λ x. twice _) c.args.text.now c.args.from 16 (omega arith) (omega arith) (omega (arith, others.ensures)) ∙ ap (count_trailing_zeros 64) (sym others.ensures) in
    omega (arith, run, run_bound is_ascii_digit c.args.text.now c.args.from c.requires)

pub returns-clause-value : goal.returns-clause-value
returns-clause-value c =
    let run = run_through (λ x. not (is_ascii_digit x)) is_ascii_digit (λ x. twice _) c.args.text.now c.args.from 16 (omega arith) (omega (arith, c.others_of-others.ensures)) in
    omega (arith, run)
