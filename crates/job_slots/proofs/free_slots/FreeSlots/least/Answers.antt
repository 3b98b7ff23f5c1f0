use Rattle.std.proofs.Common.{arith}
use Rattle.std.specs.Int.{w128}
use Rattle.std.proofs.lemmas.Nat.Bits.{bit_at-trailing_zeros}
use Rattle.job_slots.proofs.free_slots.FreeSlots.least.Goals as goal

pub returns-else-self-eq0 : goal.returns-else-self-eq0
returns-else-self-eq0 c = bit_at-trailing_zeros w128 c.args.self.bits (omega arith) (omega arith)
