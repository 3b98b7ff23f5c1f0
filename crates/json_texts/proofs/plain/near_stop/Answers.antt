use Rattle.std.proofs.Common.{refl, sym, ap, ◌∙◌, arith}
use lib.Count.{count_trailing_zeros}
use Rattle.json.specs.Run.{is_stop, is_plain}
use Rattle.json_texts.proofs.Runs.{run_stops, run_within}
use Rattle.json_texts.proofs.plain.near_stop.Goals as goal

pub returns-clause-value : goal.returns-clause-value
returns-clause-value c =
    let found = c.stops_16-found in
    let run = run_stops is_stop is_plain (λ x. refl) c.args.text.now c.args.from 16 (omega arith) (omega arith) (omega (arith, found.ensures)) ∙ ap (count_trailing_zeros 64) (sym found.ensures) in
    omega (arith, run)

pub returns-clause-within : goal.returns-clause-within
returns-clause-within c =
    let found = c.stops_16-found in
    let run = run_stops is_stop is_plain (λ x. refl) c.args.text.now c.args.from 16 (omega arith) (omega arith) (omega (arith, found.ensures)) ∙ ap (count_trailing_zeros 64) (sym found.ensures) in
    omega (arith, run, run_within is_stop is_plain (λ x. refl) c.args.text.now c.args.from 16 (omega arith) (omega (arith, found.ensures)))
