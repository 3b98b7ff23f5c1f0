use Rattle.job_slots.specs.Seats.{IsWorkerOf}
use Rattle.library_rows.proofs.slots.workers.work.Given as goal

abbrev pub invariant-loop : goal.invariant-loop
invariant-loop g l = IsWorkerOf l.slots l.worker
