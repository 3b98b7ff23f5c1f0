use Rattle.job_slots.specs.Seats.{IsClerkOf, IsWorkerOf}
use Rattle.library_rows.proofs.slots.each_comes_out.Given as goal

abbrev pub invariant-loop-index : goal.invariant-loop-index
invariant-loop-index g l = IsClerkOf l.slots l.clerk × IsWorkerOf l.slots l.worker
