-- What a seat's view shows, and how it changes.
use Rattle.std.specs.Prelude.{◌≡◌, ℕ, ◌+◌, ◌-◌, Bool, true, false, List, [], ◌∷◌, ◌++◌, slice_get, slice_set, length, Option, Some}
use Rattle.std.specs.List.{list_all}
use Rattle.atomic_table.specs.Table.{Me}
use Rattle.job_slots.specs.declared.view.Look.{Look}
use Rattle.job_slots.specs.declared.view.Look.TheVariants.{Free, Filling, In, Seen}
use Rattle.job_slots.specs.declared.view.View.{View}
use Rattle.job_slots.specs.declared.view.View.TheVariants.{Clerk, Idle, Busy, Spent}

module _ {J : Type 0} where
  abbrev pub is_free : Look J → Bool
  is_free Free = true
  is_free _ = false

  -- a look between two calls: no job is on its way in or home
  abbrev pub is_settled : Look J → Bool
  is_settled Free = true
  is_settled Filling = false
  is_settled (In j) = true
  is_settled (Seen j j') = false

  -- the clerk's look at each slot
  abbrev pub view_looks : View J → List (Look J)
  view_looks (Clerk looks live) = looks
  view_looks (Idle shut) = []
  view_looks (Busy shut i j) = []
  view_looks Spent = []

  -- how many workers' seats are split off and not joined, as the clerk counts
  abbrev pub view_live : View J → ℕ
  view_live (Clerk looks live) = live
  view_live (Idle shut) = 0
  view_live (Busy shut i j) = 0
  view_live Spent = 0

  -- the slots that a worker has shut, in order
  abbrev pub view_shut : View J → List ℕ
  view_shut (Clerk looks live) = []
  view_shut (Idle shut) = shut
  view_shut (Busy shut i j) = shut
  view_shut Spent = []

  abbrev pub is_clerk : View J → Bool
  is_clerk (Clerk looks live) = true
  is_clerk (Idle shut) = false
  is_clerk (Busy shut i j) = false
  is_clerk Spent = false

  abbrev pub is_idle : View J → Bool
  is_idle (Clerk looks live) = false
  is_idle (Idle shut) = true
  is_idle (Busy shut i j) = false
  is_idle Spent = false

  -- a worker's seat that is not joined
  abbrev pub is_worker : View J → Bool
  is_worker (Clerk looks live) = false
  is_worker (Idle shut) = true
  is_worker (Busy shut i j) = true
  is_worker Spent = false

  -- the clerk's view with another look at the slot i
  abbrev pub with_look : View J → ℕ → Look J → View J
  with_look v i look = Clerk (slice_set (view_looks v) i look) (view_live v)

  -- the clerk's view with one worker more, and with one fewer
  abbrev pub one_hired : View J → View J
  one_hired v = Clerk (view_looks v) (view_live v + 1)

  abbrev pub one_joined : View J → View J
  one_joined v = Clerk (view_looks v) (view_live v - 1)

  -- the clerk has a job in the slot i
  abbrev pub HasJob : List (Look J) → ℕ → Type 0
  HasJob looks i = (job : J) × (slice_get looks i ≡ Some (In job))

  -- the clerk has a job in the slot i, of which `after` is one turn
  abbrev pub HasTurned : (J → J → Type 0) → List (Look J) → ℕ → J → Type 0
  HasTurned turned looks i after = (job : J) × (slice_get looks i ≡ Some (In job)) × turned job after

  -- between two calls the clerk holds no slot, and no job is on its way in or home
  abbrev pub IsClerkAtRest : Me (Option J) (View J) → Type 0
  IsClerkAtRest m = (is_clerk m.0 ≡ true) × (length m.1 ≡ 0) × (list_all is_settled (view_looks m.0) ≡ true)

  -- a worker tried a slot: it has claimed, turned and shut the job there, or nothing has changed
  abbrev pub HasTried : ℕ → Me (Option J) (View J) → Bool → Me (Option J) (View J) → Type 0
  HasTried slot before true after = after ≡ (Idle (view_shut before.0 ++ slot ∷ []), [])
  HasTried slot before false after = after ≡ before

  -- between two calls a worker holds no slot and has no job
  abbrev pub IsWorkerAtRest : Me (Option J) (View J) → Type 0
  IsWorkerAtRest m = (is_idle m.0 ≡ true) × (length m.1 ≡ 0)
