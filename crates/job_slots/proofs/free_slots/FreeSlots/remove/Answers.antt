use Rattle.std.specs.Int.{w128}
use Rattle.std.proofs.lemmas.Nat.Bits.{bit_at_clear_same, bit_at_clear_other}
use Rattle.job_slots.proofs.free_slots.FreeSlots.remove.Goals as goal

pub returns : goal.returns
returns c = (bit_at_clear_same w128 c.args.self.now.bits c.args.slot c.requires, λ k below other. bit_at_clear_other w128 c.args.self.now.bits c.args.slot c.requires k below other)
