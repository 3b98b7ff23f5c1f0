-- The runs of a table with an opening, at the start.
use Rattle.std.proofs.Common.{◌≡◌, ℕ, zero, suc, ◌<◌, List, [], ◌∷◌, true, false, Some, None, is_some, nat_lt, length, refl, ap, sym, ◌∙◌, arith}
use Rattle.std.specs.List.{list_all}
use Rattle.number_set.specs.Numbers.{Marked, HasRoom, is_in}
use Rattle.method_templates.specs.Steps.{Step, calls_of}
use Rattle.answer_desk.specs.State.{new_state as new_desk, opening_state as opening_desk, reply_of}
use Rattle.handler_future.specs.State.{HandlerState, opening_state, opening_program, new_state}
use Rattle.peer_events.specs.declared.stage.Stage.TheVariants.{Gone, Idle}
use Rattle.peer_events.specs.Core.{Core, stage_at}
use Rattle.peer_events.specs.Turning.{opening_stage, first_desk, is_ready_stage}
use Rattle.peer_events.specs.Stages.{is_gone}
use Rattle.session_runs.specs.Runs.{AreRuns, StageFits, core_of, has_unwritten}

abbrev pub started : HandlerState → ℕ → Core
started h most = record { desk = opening_desk most; stages = Idle h 0 ∷ [] }

started-fits : (h : HandlerState) (most k : ℕ) → h.number ≡ 0 → StageFits (opening_desk most) k (stage_at (started h most) k)
started-fits h most zero number = (refl, number)
started-fits h most (suc k) number = tt

started-ready : (h : HandlerState) (most k : ℕ) (r : Marked) → h.waits ≡ [] → is_in r 0 ≡ true → ((j : ℕ) → 0 < j → is_in r j ≡ false)
    → is_in r k ≡ is_ready_stage (opening_desk most) (stage_at (started h most) k)
started-ready h most zero r waits here others = here ∙ sym (ap (list_all (λ turn. is_some (reply_of (opening_desk most) h.number turn))) waits)
started-ready h most (suc k) r waits here others = others (suc k) (omega arith)

started-unwritten : (h : HandlerState) (most k : ℕ) (u : Marked) → h.messages ≡ [] → ((j : ℕ) → is_in u j ≡ false) → is_in u k ≡ has_unwritten (stage_at (started h most) k)
started-unwritten h most zero u messages none = none zero ∙ sym (ap (λ ms. nat_lt 0 (length ms)) messages)
started-unwritten h most (suc k) u messages none = none (suc k)

started-room : (h : HandlerState) (most k : ℕ) (r u : Marked) → HasRoom r 0 → HasRoom u 0 → is_gone (stage_at (started h most) k) ≡ false → HasRoom r k × HasRoom u k
started-room h most zero r u r_room u_room here = (r_room, u_room)
started-room h most (suc k) r u r_room u_room here = cc

-- number 0 alone is ready
pub AreRuns-started : (h : HandlerState) (most : ℕ) (r u : Marked) → h.number ≡ 0 → h.waits ≡ [] → h.messages ≡ []
    → HasRoom r 0 → is_in r 0 ≡ true → ((k : ℕ) → 0 < k → is_in r k ≡ false) → HasRoom u 0 → ((k : ℕ) → is_in u k ≡ false)
    → AreRuns (started h most) r u
AreRuns-started h most r u number waits messages r_room r_zero r_others u_room u_none = record {
  numbers = refl;
  few = omega arith;
  fits = λ k. started-fits h most k number;
  ready = λ k. started-ready h most k r waits r_zero r_others;
  unwritten = λ k. started-unwritten h most k u messages u_none;
  room = λ k here. started-room h most k r u r_room u_room here;
}

-- ---- a handler that is the opening's

pub number-zero : (steps : List Step) (h : HandlerState) → Some h ≡ opening_state steps → h.number ≡ 0
number-zero [] h is = cc
number-zero (s ∷ ss) h is = let same : h ≡ new_state 0 (opening_program (s ∷ ss)) = cc in ap (λ k. k.number) same

pub no-waits : (steps : List Step) (h : HandlerState) → Some h ≡ opening_state steps → h.waits ≡ []
no-waits [] h is = cc
no-waits (s ∷ ss) h is = let same : h ≡ new_state 0 (opening_program (s ∷ ss)) = cc in ap (λ k. k.waits) same

pub no-messages : (steps : List Step) (h : HandlerState) → Some h ≡ opening_state steps → h.messages ≡ []
no-messages [] h is = cc
no-messages (s ∷ ss) h is = let same : h ≡ new_state 0 (opening_program (s ∷ ss)) = cc in ap (λ k. k.messages) same

pub is-start : (steps : List Step) (h : HandlerState) → Some h ≡ opening_state steps
    → started h (calls_of steps) ≡ record { desk = first_desk steps; stages = opening_stage steps ∷ [] }
is-start [] h is = cc
is-start (s ∷ ss) h is = let same : h ≡ new_state 0 (opening_program (s ∷ ss)) = cc in ap (λ k. started k (calls_of (s ∷ ss))) same

pub none-start : (steps : List Step) → None ≡ opening_state steps
    → core_of new_desk (Gone ∷ []) ≡ record { desk = first_desk steps; stages = opening_stage steps ∷ [] }
none-start [] is = refl
none-start (s ∷ ss) is = cc
