-- The life of a slot: empty, filling, ready, running, done, homing, and empty again.
use Rattle.std.specs.Prelude.{ℕ, Option, Some, None}
use mathlib.Core.Option as known
use Rattle.job_slots.specs.declared.word.TheConstants.{EMPTY, FILLING, READY, RUNNING, DONE}
use Rattle.job_slots.specs.declared.view.Look.{Look}
use Rattle.job_slots.specs.declared.view.Look.TheVariants.{Free, Filling, In, Seen}

pub data Phase (J : Type 0) : Type 0 where
  empty : Phase J
  filling : Phase J
  -- the job that was offered
  ready : J → Phase J
  -- the worker's seat that claimed it, and the job
  running : ℕ → J → Phase J
  -- the job that was offered, and the same after its turn
  done : J → J → Phase J
  -- the same, once the clerk has seen it
  homing : J → J → Phase J

module _ {J : Type 0} where
  -- what the slot's word says
  abbrev pub word_of : Phase J → ℕ
  word_of empty = EMPTY
  word_of filling = FILLING
  word_of (ready j) = READY
  word_of (running w j) = RUNNING
  word_of (done j j') = DONE
  word_of (homing j j') = DONE

  -- what lies in the slot, and nothing known while a seat holds it
  abbrev pub home_of : Phase J → known.Option (Option J)
  home_of empty = known.some None
  home_of filling = known.none
  home_of (ready j) = known.some (Some j)
  home_of (running w j) = known.none
  home_of (done j j') = known.some (Some j')
  home_of (homing j j') = known.none

  -- what the clerk knows of it
  abbrev pub look_of : Phase J → Look J
  look_of empty = Free
  look_of filling = Filling
  look_of (ready j) = In j
  look_of (running w j) = In j
  look_of (done j j') = In j
  look_of (homing j j') = Seen j j'

  -- what comes out of the slot is one turn of what went in
  abbrev pub IsTurnedOnce : (J → J → Type 0) → Phase J → Type 0
  IsTurnedOnce turned empty = Unit {0}
  IsTurnedOnce turned filling = Unit {0}
  IsTurnedOnce turned (ready j) = Unit {0}
  IsTurnedOnce turned (running w j) = Unit {0}
  IsTurnedOnce turned (done j j') = turned j j'
  IsTurnedOnce turned (homing j j') = turned j j'
