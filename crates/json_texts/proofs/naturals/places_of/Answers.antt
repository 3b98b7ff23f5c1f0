use Rattle.std.proofs.Common.{eqb, arith, w8}
use Rattle.std.proofs.lemmas.Simd.{bitmask_splat}
use Rattle.json_texts.proofs.naturals.places_of.Goals as goal

pub returns : goal.returns
returns c = bitmask_splat w8 eqb c.args.some 16 c.args.byte c.fits-some.0 (omega arith)
