-- What callers see of the slots and of the seats.
use Rattle.std.specs.Prelude.{◌≡◌, ℕ, ◌<◌, List, [], ◌∷◌, ◌++◌}
use Rattle.job_slots.specs.declared.slots.JobSlots.{JobSlots}
use Rattle.job_slots.specs.declared.clerk.ClerkSeat.{ClerkSeat}
use Rattle.job_slots.specs.declared.worker.Ran.{Ran}
use Rattle.job_slots.specs.declared.worker.Ran.TheVariants.{One, Nothing}
use Rattle.job_slots.specs.declared.worker.WorkerSeat.{WorkerSeat}
use Rattle.job_slots.specs.declared.view.Look.{Look}
use Rattle.job_slots.specs.declared.view.View.{View}
use Rattle.job_slots.specs.Looks.{view_looks, view_live, view_shut}

module _ {J : Type 0} where
  -- how many slots there are
  abbrev pub slot_count : JobSlots J → ℕ
  slot_count slots = slots.count

  -- the seat came from this table's `make` or `split`
  abbrev pub IsClerkOf : JobSlots J → ClerkSeat J → Type 0
  IsClerkOf slots clerk = clerk.seat.table_id ≡ slots.table.shared.table_id

  abbrev pub IsWorkerOf : JobSlots J → WorkerSeat J → Type 0
  IsWorkerOf slots worker = worker.seat.table_id ≡ slots.table.shared.table_id

  -- all that the clerk knows
  abbrev pub view_of : ClerkSeat J → View J
  view_of clerk = clerk.seat.me.0

  -- what the clerk knows of each slot
  abbrev pub looks_of : ClerkSeat J → List (Look J)
  looks_of clerk = view_looks clerk.seat.me.0

  -- how many workers' seats were split off and not joined
  abbrev pub live_of : ClerkSeat J → ℕ
  live_of clerk = view_live clerk.seat.me.0

  -- the slots that this worker has shut, in order: one for each job that it turned
  abbrev pub shut_of : WorkerSeat J → List ℕ
  shut_of worker = view_shut worker.seat.me.0

  -- what a worker tells of a call: it has turned one job, of a slot of the table, which it shut last; or none, and it has shut none
  abbrev pub TellsTurn : JobSlots J → WorkerSeat J → Ran → WorkerSeat J → Type 0
  TellsTurn slots before (One slot) after = (slot < slot_count slots) × (shut_of after ≡ shut_of before ++ slot ∷ [])
  TellsTurn slots before Nothing after = shut_of after ≡ shut_of before
