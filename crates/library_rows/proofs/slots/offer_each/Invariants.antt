use Rattle.job_slots.specs.Seats.{IsClerkOf}
use Rattle.library_rows.proofs.slots.offer_each.Given as goal

abbrev pub invariant-loop-number : goal.invariant-loop-number
invariant-loop-number g l = IsClerkOf l.slots l.clerk
