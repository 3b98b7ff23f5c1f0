-- What each kind of atomic step tells its seat: of the step, the seat before, the number found (at a store, the number stored) and the seat after.
use Rattle.std.specs.Prelude.{◌≡◌, ◌≢◌, ℕ, [], ◌∷◌, ◌++◌, slice_get, Option, Some, None}
use Rattle.atomic_table.specs.Table.{Me, Step}
use Rattle.job_slots.specs.declared.word.TheConstants.{READY, DONE}
use Rattle.job_slots.specs.declared.view.Look.TheVariants.{Free, Filling, In, Seen}
use Rattle.job_slots.specs.declared.view.View.{View}
use Rattle.job_slots.specs.declared.view.View.TheVariants.{Idle, Busy}
use Rattle.job_slots.specs.Looks.{view_looks, view_shut, with_look}

abbrev Told : Type 0 → Type 1
Told J = Step (Option J) → Me (Option J) (View J) → ℕ → Me (Option J) (View J) → Type 0

module _ {J : Type 0} where
  -- the clerk takes a free slot
  abbrev pub reserved : Told J
  reserved st m r n = n ≡ (with_look m.0 st.word Filling, (st.word, None) ∷ [])

  -- the clerk gives the slot back with the job that it has put in
  abbrev pub opened : Told J
  opened st m r n = (job : J) → m.1 ≡ (st.word, Some job) ∷ [] → n ≡ (with_look m.0 st.word (In job), [])

  -- a worker takes a slot that was ready, or nothing changes
  abbrev pub claimed : Told J
  claimed st m r n = ((r ≡ READY) → (job : J) × (n ≡ (Busy (view_shut m.0) st.word job, (st.word, Some job) ∷ [])))
      × ((r ≢ READY) → n ≡ m)

  -- a worker gives the slot back with the turned job
  abbrev pub shut : Told J
  shut st m r n = n ≡ (Idle (view_shut m.0 ++ st.word ∷ []), [])

  -- the clerk takes a slot that is done, or nothing changes
  abbrev pub looked : (J → J → Type 0) → Told J
  looked turned st m r n = ((r ≡ DONE) → (job after : J) × (slice_get (view_looks m.0) st.word ≡ Some (In job)) × turned job after
      × (n ≡ (with_look m.0 st.word (Seen job after), (st.word, Some after) ∷ [])))
      × ((r ≢ DONE) → n ≡ m)

  -- the clerk gives the slot back empty
  abbrev pub cleared : Told J
  cleared st m r n = n ≡ (with_look m.0 st.word Free, [])
