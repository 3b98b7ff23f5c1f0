use Rattle.job_slots.specs.Seats.{IsWorkerOf}
use Rattle.library_rows.proofs.slots.closings.run_all.Given as goal

abbrev pub invariant-loop-slot : goal.invariant-loop-slot
invariant-loop-slot g l = IsWorkerOf l.slots l.first × IsWorkerOf l.slots l.second
