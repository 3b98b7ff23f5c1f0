use Rattle.std.proofs.Common.{arith}
use Rattle.job_slots.proofs.Bits.{all_set, first_unset}
use Rattle.job_slots.proofs.free_slots.FreeSlots.next_in_use.Goals as goal

pub returns-then-in_use-eq0 : goal.returns-then-in_use-eq0
returns-then-in_use-eq0 c = all_set c.args.self.bits c.args.from (omega arith) c.if-in_use-eq0.true

pub returns-else-in_use-eq0 : goal.returns-else-in_use-eq0
returns-else-in_use-eq0 c = first_unset c.args.self.bits c.args.from (omega arith) (omega arith) (omega arith)
