use Rattle.std.proofs.Common.{ℕ, cond, leb, arith}
use Rattle.std.proofs.lemmas.Simd.{zip2_splat, zip2_splat_left, zip2_of_maps}
use Rattle.std.specs.Char.{is_ascii_digit}
use lib.Bits.{bit_and}
use Rattle.json_texts.proofs.Lanes.{masked}
use Rattle.json_texts.proofs.naturals.digits_of.Goals as goal

abbrev at_most : ℕ → ℕ → ℕ
at_most a b = cond (leb a b) 255 0

pub returns : goal.returns
returns c =
    let v = c.args.some in
    let long = c.fits-some.0 in
    masked _ is_ascii_digit v _ (omega arith) c.fits-some.1 (zip2_of_maps bit_and _ _ v (zip2_splat_left at_most 48 16 v long) (zip2_splat at_most v 16 57 long)) tt
