-- What a view or a phase is, from what is known of it.
use Rattle.std.proofs.Common.{◌≡◌, ℕ, zero, suc, true, false, List, [], ◌∷◌, get_or, refl, ap, arith}
use mathlib.Core.Option.{some}
use lib.ListN.{get_elem?}
use Rattle.job_slots.specs.declared.word.TheConstants.{READY, DONE}
use Rattle.job_slots.specs.declared.view.Look.TheVariants.{Free, Filling, In, Seen}
use Rattle.job_slots.specs.declared.view.View.{View}
use Rattle.job_slots.specs.declared.view.View.TheVariants.{Clerk, Idle, Busy, Spent}
use Rattle.job_slots.specs.Phases.{Phase, empty, filling, ready, running, done, homing, word_of, look_of}
use Rattle.job_slots.specs.Looks.{is_clerk, is_idle, is_worker, view_looks, view_live, view_shut}

-- a word that is not 0 is there
pub word_there : (words : List ℕ) (i n : ℕ) → get_or words i 0 ≡ suc n → get_elem? words i ≡ some (suc n)
word_there [] i n e = absurd (omega arith)
word_there (x ∷ xs) zero n e = ap some e
word_there (x ∷ xs) (suc i) n e = word_there xs i n e

module _ {J : Type 0} where
  pub clerk_is : (v : View J) → is_clerk v ≡ true → v ≡ Clerk (view_looks v) (view_live v)
  clerk_is (Clerk looks live) e = refl
  clerk_is (Idle shut) e = cc
  clerk_is (Busy shut i j) e = cc
  clerk_is Spent e = cc

  pub idle_is : (v : View J) → is_idle v ≡ true → v ≡ Idle (view_shut v)
  idle_is (Clerk looks live) e = cc
  idle_is (Idle shut) e = refl
  idle_is (Busy shut i j) e = cc
  idle_is Spent e = cc

  pub clerk_no_worker : (v : View J) → is_clerk v ≡ true → is_worker v ≡ false
  clerk_no_worker (Clerk looks live) e = refl
  clerk_no_worker (Idle shut) e = cc
  clerk_no_worker (Busy shut i j) e = cc
  clerk_no_worker Spent e = cc

  -- no worker has the job of the slot
  abbrev pub IsStill : Phase J → Type 0
  IsStill (running w j) = ⊥
  IsStill empty = Unit {0}
  IsStill filling = Unit {0}
  IsStill (ready j) = Unit {0}
  IsStill (done j j') = Unit {0}
  IsStill (homing j j') = Unit {0}

  pub free_phase : (p : Phase J) → look_of p ≡ Free → p ≡ empty
  free_phase empty e = refl
  free_phase filling e = cc
  free_phase (ready j) e = cc
  free_phase (running w j) e = cc
  free_phase (done j j') e = cc
  free_phase (homing j j') e = cc

  pub filling_phase : (p : Phase J) → look_of p ≡ Filling → p ≡ filling
  filling_phase empty e = cc
  filling_phase filling e = refl
  filling_phase (ready j) e = cc
  filling_phase (running w j) e = cc
  filling_phase (done j j') e = cc
  filling_phase (homing j j') e = cc

  pub seen_phase : (p : Phase J) (j j' : J) → look_of p ≡ Seen j j' → p ≡ homing j j'
  seen_phase empty j j' e = cc
  seen_phase filling j j' e = cc
  seen_phase (ready k) j j' e = cc
  seen_phase (running w k) j j' e = cc
  seen_phase (done k k') j j' e = cc
  seen_phase (homing k k') j j' e = cc

  pub ready_phase : (p : Phase J) → word_of p ≡ READY → (j : J) × (p ≡ ready j)
  ready_phase empty e = absurd (omega arith)
  ready_phase filling e = absurd (omega arith)
  ready_phase (ready j) e = (j, refl)
  ready_phase (running w j) e = absurd (omega arith)
  ready_phase (done j j') e = absurd (omega arith)
  ready_phase (homing j j') e = absurd (omega arith)

  -- a slot whose word is DONE and in which a job was offered, but not yet seen turned
  pub done_phase : (p : Phase J) (job : J) → word_of p ≡ DONE → look_of p ≡ In job → (after : J) × (p ≡ done job after)
  done_phase empty job e l = absurd (omega arith)
  done_phase filling job e l = absurd (omega arith)
  done_phase (ready j) job e l = absurd (omega arith)
  done_phase (running w j) job e l = absurd (omega arith)
  done_phase (done j j') job e l = (j', (let same : j ≡ job = cc in ap (λ (k : J). done k j') same))
  done_phase (homing j j') job e l = cc
