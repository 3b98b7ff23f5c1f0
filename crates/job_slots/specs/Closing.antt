-- What closing the table gives.
use Rattle.std.specs.Prelude.{◌≡◌, ◌⊎◌, ℕ, ◌+◌, List, [], ◌∷◌, Option}
use mathlib.Core.Option.{some}
use lib.ListN.{get_elem?}
use Rattle.atomic_table.specs.Table.{State}
use Rattle.job_slots.specs.declared.view.Look.{Look}
use Rattle.job_slots.specs.declared.view.Look.TheVariants.{Free, Filling, In, Seen}
use Rattle.job_slots.specs.declared.view.View.{View}
use Rattle.job_slots.specs.Phases.{Phase, empty, filling, ready, running, done, homing}
use Rattle.job_slots.specs.Lawful.{LawfulTable}

module _ {J : Type 0} (turned : J → J → Type 0) where
  -- the job as it was offered, or after one turn
  abbrev pub IsGivenFor : J → J → Type 0
  IsGivenFor job given = (given ≡ job) ⊎ turned job given

  -- Slot by slot: nothing of a free one, and of one in use its job, unturned or turned once.
  -- As many jobs as `away`, at most, are left out: each is with a worker's seat that was not joined
  abbrev pub ComesBack : ℕ → List (Look J) → List J → Type 0
  ComesBack away [] jobs = jobs ≡ []
  ComesBack away (Free ∷ looks) jobs = ComesBack away looks jobs
  ComesBack away (Filling ∷ looks) jobs = ⊥
  ComesBack away (In job ∷ looks) jobs =
      ((given : J) × (rest : List J) × (jobs ≡ given ∷ rest) × IsGivenFor job given × ComesBack away looks rest)
      ⊎ ((fewer : ℕ) × (away ≡ fewer + 1) × ComesBack fewer looks jobs)
  ComesBack away (Seen job after ∷ looks) jobs = ⊥

-- the jobs at home, by slot: of a ready slot the job that was offered, of a done one what its turn left
abbrev pub jobs_at_home : {J : Type 0} → List (Phase J) → List J
jobs_at_home [] = []
jobs_at_home (empty ∷ phases) = jobs_at_home phases
jobs_at_home (filling ∷ phases) = jobs_at_home phases
jobs_at_home (ready job ∷ phases) = job ∷ jobs_at_home phases
jobs_at_home (running worker job ∷ phases) = jobs_at_home phases
jobs_at_home (done job after ∷ phases) = after ∷ jobs_at_home phases
jobs_at_home (homing job after ∷ phases) = jobs_at_home phases

-- the table was lawful to the end. The clerk, the first seat, had this view then, and these jobs were at home
abbrev pub EndsLawful : {J : Type 0} → (J → J → Type 0) → View J → List J → Type 0
EndsLawful {J} turned view jobs = (last : State (Option J) (View J)) × (lawful : LawfulTable turned last) × (get_elem? last.views 0 ≡ some view) × (jobs ≡ jobs_at_home lawful.phases)
