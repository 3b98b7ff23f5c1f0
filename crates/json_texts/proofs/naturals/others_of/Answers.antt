use Rattle.std.proofs.Common.{not, arith}
use Rattle.std.proofs.lemmas.Simd.{zip2_splat, zip2_splat_left}
use Rattle.std.specs.Char.{is_ascii_digit}
use Rattle.json_texts.proofs.Lanes.{below, either, masked}
use Rattle.json_texts.proofs.naturals.others_of.Goals as goal

pub returns : goal.returns
returns c =
    let v = c.args.some in
    let long = c.fits-some.0 in
    masked _ (λ x. not (is_ascii_digit x)) v _ (omega arith) c.fits-some.1 (either _ _ v (zip2_splat below v 16 48 long) (zip2_splat_left below 57 16 v long)) tt
