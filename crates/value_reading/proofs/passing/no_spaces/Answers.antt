use Rattle.std.proofs.Common.{ℕ, cond, eqb, not, arith}
use Rattle.std.proofs.lemmas.Simd.{zip2_splat}
use Rattle.json_texts.proofs.Lanes.{masked}
use Rattle.value_reading.specs.Lexed.{is_no_space}
use Rattle.value_reading.proofs.passing.no_spaces.Goals as goal

abbrev differs : ℕ → ℕ → ℕ
differs a b = cond (not (eqb a b)) 255 0

pub returns : goal.returns
returns c =
    let v = c.args.v in
    let long = c.fits-v.0 in
    masked _ is_no_space v _ (omega arith) c.fits-v.1 (zip2_splat differs v 16 32 long) tt
