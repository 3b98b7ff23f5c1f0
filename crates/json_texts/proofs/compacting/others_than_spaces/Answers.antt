use Rattle.std.proofs.Common.{eqb, not, arith, w8}
use Rattle.std.proofs.lemmas.Simd.{bitmask_splat}
use Rattle.json_texts.proofs.compacting.others_than_spaces.Goals as goal

pub returns : goal.returns
returns c = bitmask_splat w8 (λ a b. not (eqb a b)) c.args.some 16 32 c.fits-some.0 (omega arith)
