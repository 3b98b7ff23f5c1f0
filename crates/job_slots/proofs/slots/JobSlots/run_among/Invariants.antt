use Rattle.std.proofs.Common.{◌≡◌}
use Rattle.job_slots.proofs.slots.JobSlots.run_among.Given as goal

-- no job was claimed so far
abbrev pub invariant-loop-slot : goal.invariant-loop-slot
invariant-loop-slot g l = (l.worker.seat.table_id ≡ l.initial.worker.seat.table_id) × (l.worker.seat.me ≡ l.initial.worker.seat.me)
