use Rattle.std.proofs.Common.{w64, false, ap}
use Rattle.std.proofs.lemmas.Nat.Bits.{bit_at_clear_same, bit_at_clear_other}
use Rattle.number_set.specs.Levels.{is_one}
use Rattle.number_set.proofs.Bits.{changed-word}
use Rattle.number_set.proofs.word.without_bit.Goals as goal

pub returns : goal.returns
returns c =
    changed-word c.args.bit c.args.word _ false c.requires
    (ap is_one (bit_at_clear_same w64 c.args.word c.args.bit c.requires)) (λ m below other. bit_at_clear_other w64 c.args.word c.args.bit c.requires m below other)
