use Rattle.job_slots.specs.Seats.{IsClerkOf}
use Rattle.library_rows.proofs.slots.closings.refill_all.Given as goal

abbrev pub invariant-loop-slot : goal.invariant-loop-slot
invariant-loop-slot g l = IsClerkOf l.slots l.clerk
