use Rattle.std.specs.Int.{w128}
use Rattle.std.proofs.lemmas.Nat.Bits.{bit_at_set_same, bit_at_set_other}
use Rattle.job_slots.proofs.free_slots.FreeSlots.insert.Goals as goal

pub returns : goal.returns
returns c = (bit_at_set_same w128 c.args.self.now.bits c.args.slot c.requires, λ k _ other. bit_at_set_other w128 c.args.self.now.bits c.args.slot c.requires k other)
