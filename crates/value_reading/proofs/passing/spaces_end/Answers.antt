use Rattle.std.proofs.Common.{◌≡◌, ◌==◌, Bool, true, false, refl, sym, ap, ◌∙◌, arith}
use Rattle.std.specs.Prelude.{not}
use lib.Count.{count_trailing_zeros}
use Rattle.json_texts.proofs.Runs.{run_through, run_stops}
use Rattle.value_reading.specs.Lexed.{is_no_space, is_space_byte}
use Rattle.value_reading.proofs.Lexemes.{row_blanks}
use Rattle.value_reading.proofs.passing.spaces_end.Goals as goal

not-not : (b : Bool) → b ≡ not (not b)
not-not true = refl
not-not false = refl

pub returns-then-others-eq0 : goal.returns-then-others-eq0
returns-then-others-eq0 c =
    let bytes = c.args.bytes.now in
    let from = c.args.from in
    let run = run_through is_no_space is_space_byte (λ x. not-not (x == 32)) bytes from 16 (omega (arith, c.if-bytes-from-lt16.false)) (omega (arith, c.no_spaces-others.ensures, c.if-others-eq0.true)) in
    row_blanks bytes from 16 (omega (arith, run))

pub returns : goal.returns
returns c =
    let bytes = c.args.bytes.now in
    let from = c.args.from in
    let seen = c.no_spaces-others.ensures in
    let others = c.no_spaces-others.result in
    let run = run_stops is_no_space is_space_byte (λ x. not-not (x == 32)) bytes from 16 (omega (arith, c.if-bytes-from-lt16.false)) (omega arith) (omega (arith, seen, c.if-others-eq0.false)) ∙ ap (count_trailing_zeros 64) (sym seen) in
    row_blanks bytes from (count_trailing_zeros 64 others) (omega (arith, run))
