-- The lawful slot table: what holds of the words, the slots and the seats' views between any two atomic steps.
use Rattle.std.specs.Prelude.{◌≡◌, ℕ, ◌≤◌, List, map, count_by, Option}
use mathlib.Core.Option.{some}
use lib.ListN.{get_elem?}
use Rattle.atomic_table.specs.Table.{State}
use Rattle.job_slots.specs.declared.view.Look.{Look}
use Rattle.job_slots.specs.declared.view.View.{View}
use Rattle.job_slots.specs.declared.view.View.TheVariants.{Clerk, Busy}
use Rattle.job_slots.specs.Phases.{Phase, running, word_of, home_of, look_of, IsTurnedOnce}
use Rattle.job_slots.specs.Looks.{is_worker}

pub record LawfulTable {J : Type 0} (turned : J → J → Type 0) (s : State (Option J) (View J)) : Type 0 where
  -- each slot is in one phase of its life
  pub phases : List (Phase J)
  -- its word says which, and what is at home in it is what that phase has there
  pub words : s.words ≡ map word_of phases
  pub homes : s.homes ≡ map home_of phases
  -- what was turned was turned once
  pub turns : (i : ℕ) (p : Phase J) → get_elem? phases i ≡ some p → IsTurnedOnce turned p
  -- the first seat is the clerk's. Its looks are at these phases, and it counts no fewer workers than there are
  pub clerk : (live : ℕ) × (get_elem? s.views 0 ≡ some (Clerk (map look_of phases) live)) × (count_by is_worker s.views ≤ live)
  -- no other seat is a clerk's
  pub alone : (id : ℕ) (looks : List (Look J)) (live : ℕ) → get_elem? s.views id ≡ some (Clerk looks live) → id ≡ 0
  -- a worker's seat has claimed a slot exactly where that slot is running, with that seat and that job
  pub claims : (id i : ℕ) (job : J) (shut : List ℕ) → get_elem? s.views id ≡ some (Busy shut i job) → get_elem? phases i ≡ some (running id job)
  pub claimed : (id i : ℕ) (job : J) → get_elem? phases i ≡ some (running id job) → (shut : List ℕ) × (get_elem? s.views id ≡ some (Busy shut i job))
