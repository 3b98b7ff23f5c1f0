use Rattle.std.proofs.Common.{w64, true, ap}
use Rattle.std.proofs.lemmas.Nat.Bits.{bit_at_set_same, bit_at_set_other}
use Rattle.number_set.specs.Levels.{is_one}
use Rattle.number_set.proofs.Bits.{changed-word}
use Rattle.number_set.proofs.word.with_bit.Goals as goal

pub returns : goal.returns
returns c =
    changed-word c.args.bit c.args.word _ true c.requires
    (ap is_one (bit_at_set_same w64 c.args.word c.args.bit c.requires)) (λ m below other. bit_at_set_other w64 c.args.word c.args.bit c.requires m other)
