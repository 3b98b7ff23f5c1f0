use Rattle.std.proofs.Common.{arith}
use Rattle.job_slots.proofs.Bits.{ones_below}
use Rattle.job_slots.proofs.free_slots.FreeSlots.all.Goals as goal

pub returns : goal.returns
returns c k = ones_below c.args.slots k (omega arith)
