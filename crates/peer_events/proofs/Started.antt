-- The start.
use Rattle.std.proofs.Common.{◌≡◌, ℕ, zero, suc, ◌+◌, ◌-◌, ◌≤◌, ◌==◌, List, [], ◌∷◌, length, Bool, true, false, cond, Some, None, inl, inr, refl, sym, ap, subst, arith, replicate}
use Rattle.std.proofs.lemmas.List.{length-replicate}
use Rattle.method_templates.specs.Steps.{Step, calls_of}
use Rattle.method_steps.specs.Steps.{MethodTable}
use Rattle.open_numbers.specs.declared.replies.Slot.{Slot}
use Rattle.open_numbers.specs.declared.replies.Slot.TheVariants.{Empty}
use Rattle.open_numbers.specs.OpenCalls.{new_number}
use Rattle.open_numbers.specs.Replies.{slot_at}
use Rattle.answer_desk.specs.State.{number_at}
use Rattle.handler_future.specs.State.{new_state, opening_program}
use Rattle.std.specs.Prelude.{slice_get}
use Rattle.peer_output.specs.Work.{opening_work}
use Rattle.peer_output.specs.Events.{no_past}
use Rattle.peer_events.specs.Core.{stage_at}
use Rattle.peer_events.specs.Fits.{SlotFits, NumberFits, AtRest}
use Rattle.peer_events.specs.Turning.{start, opening_stage, first_desk}
use Rattle.peer_events.specs.Inner.Known.{Known}
use Rattle.peer_events.proofs.Streams.{begins-itself}

-- ---- the slots of a number that is new

slot-new : (most i : ℕ) (slot : Slot) → slice_get (replicate most Empty) i ≡ Some slot → slot ≡ Empty
slot-new zero i slot is = cc
slot-new (suc most) zero slot is = cc
slot-new (suc most) (suc i) slot is = slot-new most i slot is

pub slots-new : (most turn : ℕ) (slot : Slot) → slot_at (replicate most Empty) turn ≡ Some slot → slot ≡ Empty
slots-new most turn slot is = by_turn (turn == 0) is
  where
    by_turn : (b : Bool) → cond b None (slice_get (replicate most Empty) (turn - 1)) ≡ Some slot → slot ≡ Empty
    by_turn true is = cc
    by_turn false is = slot-new most (turn - 1) slot is

-- ---- number 0

opening-fits : Known → (table : MethodTable) (steps : List Step) → table.opening ≡ steps →
    NumberFits table false [] [] 0 (opening_stage steps) (number_at (first_desk steps) 0) None [] [] None
opening-fits known table [] is = (refl, refl, refl, inr (ap opening_work is, refl))
opening-fits known table (s ∷ ss) is = (
  record {
    number = refl;
    works = ap opening_work is;
    heard = known.hears_nothing false [] 0;
    sends_are = refl;
    unfinished = refl;
    kept = new_number None (calls_of (s ∷ ss));
    is_open = refl;
    fits = record {
      id = refl;
      mark = refl;
      turns = length-replicate (calls_of (s ∷ ss)) Empty;
      slots = λ turn slot at. subst (SlotFits [] 0 (new_state 0 (opening_program (s ∷ ss))) turn) (sym (slots-new (calls_of (s ∷ ss)) turn slot at)) (refl, refl);
    };
  },
  inl (opening_program (s ∷ ss), refl),
  refl,
  refl,
  refl,
  omega arith,
)

numbers-first : (steps : List Step) → length (first_desk steps).numbers ≡ 1 + 0
numbers-first [] = refl
numbers-first (s ∷ ss) = refl

closed-first : (steps : List Step) → (first_desk steps).is_closed ≡ false
closed-first [] = refl
closed-first (s ∷ ss) = refl

units-first : (steps : List Step) → (first_desk steps).units ≡ []
units-first [] = refl
units-first (s ∷ ss) = refl

only-number : Known → (table : MethodTable) (n : ℕ) → n ≤ 0 →
    NumberFits table false [] [] n (stage_at (start table) n) (number_at (start table).desk n) None [] [] None
only-number known table zero le = opening-fits known table table.opening refl
only-number known table (suc n) le = absurd (omega arith)

pub start-at_rest : Known → (table : MethodTable) → AtRest table false (start table) no_past (λ n. None)
start-at_rest known table = record {
  past_is = known.starts table;
  closed = closed-first table.opening;
  units = units-first table.opening;
  numbers = numbers-first table.opening;
  stages = refl;
  passed_begin = begins-itself [];
  each = only-number known table;
  no_more_jobs = λ n lt. refl;
}
