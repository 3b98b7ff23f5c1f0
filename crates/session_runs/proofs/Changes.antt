-- The runs after one of their numbers has changed, or the desk.
use Rattle.std.proofs.Common.{◌≡◌, ◌≢◌, ℕ, zero, suc, ◌<◌, ◌≤◌, List, [], ◌∷◌, length, slice_index_or, nat_le, Bool, true, false, refl, sym, ap, ◌∙◌, arith}
use Rattle.std.proofs.lemmas.List.{get_or-set_other, get_or-set_same, get_or_past, length-set}
use Rattle.number_set.specs.Numbers.{Marked, HasRoom, is_in, with_mark}
use Rattle.answer_desk.specs.State.{State, is_open, with_board_closed}
use Rattle.peer_events.specs.declared.stage.Stage.{Stage}
use Rattle.peer_events.specs.declared.stage.Stage.TheVariants.{Gone, Faulty, Idle, Out, Over, Failed}
use Rattle.peer_events.specs.Stages.{is_gone}
use Rattle.peer_events.specs.Core.{Core, stage_at, with_stage, with_desk}
use Rattle.peer_events.specs.Turning.{is_ready_stage}
use Rattle.session_runs.specs.Runs.{AreRuns, StageFits, has_unwritten}
use Rattle.session_runs.proofs.Boards.{SameBoard, same-stage, same-open, fits-stage}
use Rattle.session_runs.proofs.Marked.{each-number, marked-here, marked-other, marked-room}

-- a number that isn't gone was given
pub here-below : (stages : List Stage) (n : ℕ) → is_gone (slice_index_or stages n Gone) ≡ false → n < length stages
here-below [] n here = cc
here-below (stage ∷ stages) zero here = omega arith
here-below (stage ∷ stages) (suc n) here = omega (arith, here-below stages n here)

pub gone-beyond : (stages : List Stage) (n : ℕ) → length stages ≤ n → slice_index_or stages n Gone ≡ Gone
gone-beyond stages n beyond = get_or_past stages n Gone beyond

-- who is ready isn't gone
pub ready-here : (d : State) (stage : Stage) → is_ready_stage d stage ≡ true → is_gone stage ≡ false
ready-here d (Idle h written) is = refl
ready-here d Gone is = cc
ready-here d (Faulty error) is = cc
ready-here d (Out written) is = cc
ready-here d (Over h written) is = cc
ready-here d Failed is = cc

pub unwritten-here : (stage : Stage) → has_unwritten stage ≡ true → is_gone stage ≡ false
unwritten-here (Idle h written) is = refl
unwritten-here (Over h written) is = refl
unwritten-here Gone is = cc
unwritten-here (Faulty error) is = cc
unwritten-here (Out written) is = cc
unwritten-here Failed is = cc

-- a number that isn't gone is in the stage that it was put into
pub stage-there : (core : Core) (n : ℕ) (stage : Stage) → is_gone (stage_at core n) ≡ false → stage_at (with_stage core n stage) n ≡ stage
stage-there core n stage here = get_or-set_same core.stages n stage Gone (here-below core.stages n here)

-- a number is in another stage, and marked so
pub AreRuns-replaced : (core : Core) (r u : Marked) (n : ℕ) (stage : Stage) → is_gone (stage_at core n) ≡ false → StageFits core.desk n stage → AreRuns core r u
    → AreRuns (with_stage core n stage) (with_mark (is_ready_stage core.desk (stage_at (with_stage core n stage) n)) n r) (with_mark (has_unwritten (stage_at (with_stage core n stage) n)) n u)
AreRuns-replaced core r u n stage here fits inv =
    let after = with_stage core n stage in
    let below = here-below core.stages n here in
    let at : stage_at after n ≡ stage = get_or-set_same core.stages n stage Gone below in
    let other : (k : ℕ) → k ≢ n → stage_at after k ≡ stage_at core k = λ k apart. get_or-set_other core.stages n k stage Gone apart in
    let room = inv.room n here in
    let is_r = is_ready_stage core.desk (stage_at after n) in
    let is_u = has_unwritten (stage_at after n) in
    record {
      numbers = length-set core.stages n stage ∙ inv.numbers;
      few = omega (arith, length-set core.stages n stage, inv.few);
      fits = each-number (λ k. StageFits core.desk k (stage_at after k)) n (rw at fits) (λ k apart. rw (other k apart) (inv.fits k));
      ready = each-number (λ k. is_in (with_mark is_r n r) k ≡ is_ready_stage core.desk (stage_at after k)) n
          (marked-here is_r n r (λ _. room.0)) (λ k apart. marked-other is_r n k r apart ∙ inv.ready k ∙ ap (is_ready_stage core.desk) (sym (other k apart)));
      unwritten = each-number (λ k. is_in (with_mark is_u n u) k ≡ has_unwritten (stage_at after k)) n
          (marked-here is_u n u (λ _. room.1)) (λ k apart. marked-other is_u n k u apart ∙ inv.unwritten k ∙ ap has_unwritten (sym (other k apart)));
      room = each-number (λ k. is_gone (stage_at after k) ≡ false → HasRoom (with_mark is_r n r) k × HasRoom (with_mark is_u n u) k) n
          (λ _. (marked-room is_r n n r room.0, marked-room is_u n n u room.1))
          (λ k apart not_gone. let both = inv.room k (ap is_gone (sym (other k apart)) ∙ not_gone) in (marked-room is_r n k r both.0, marked-room is_u n k u both.1));
    }

-- the desk has changed, and the same numbers are ready
pub AreRuns-same_ready : (core : Core) (d : State) (r u : Marked) → length d.numbers ≡ length core.desk.numbers
    → ((k : ℕ) → StageFits d k (stage_at core k)) → ((k : ℕ) → is_ready_stage d (stage_at core k) ≡ is_ready_stage core.desk (stage_at core k))
    → AreRuns core r u → AreRuns (with_desk core d) r u
AreRuns-same_ready core d r u long fits same inv = record {
  numbers = inv.numbers ∙ sym long;
  few = inv.few;
  fits = fits;
  ready = λ k. inv.ready k ∙ sym (same k);
  unwritten = inv.unwritten;
  room = inv.room;
}

-- the desk has changed, but for no number's board
pub AreRuns-same_boards : (core : Core) (d : State) (r u : Marked) → length d.numbers ≡ length core.desk.numbers → ((k : ℕ) → SameBoard core.desk d k)
    → AreRuns core r u → AreRuns (with_desk core d) r u
AreRuns-same_boards core d r u long same inv =
    AreRuns-same_ready core d r u long
    (λ k. fits-stage core.desk d k (stage_at core k) (same-open core.desk d k (same k)) (inv.fits k))
    (λ k. same-stage core.desk d k (stage_at core k) (same k) (inv.fits k)) inv

-- the desk has changed for one number, which is marked anew
pub AreRuns-changed : (core : Core) (d : State) (r u : Marked) (n : ℕ) → length d.numbers ≡ length core.desk.numbers
    → ((k : ℕ) → k ≢ n → SameBoard core.desk d k) → ((k : ℕ) → is_open d k ≡ is_open core.desk k) → AreRuns core r u
    → AreRuns (with_desk core d) (with_mark (is_ready_stage d (stage_at core n)) n r) u
AreRuns-changed core d r u n long same opens inv =
    let is_r = is_ready_stage d (stage_at core n) in
    record {
      numbers = inv.numbers ∙ sym long;
      few = inv.few;
      fits = λ k. fits-stage core.desk d k (stage_at core k) (opens k) (inv.fits k);
      ready = each-number (λ k. is_in (with_mark is_r n r) k ≡ is_ready_stage d (stage_at core k)) n
          (marked-here is_r n r (λ is. (inv.room n (ready-here d (stage_at core n) is)).0))
          (λ k apart. marked-other is_r n k r apart ∙ inv.ready k ∙ sym (same-stage core.desk d k (stage_at core k) (same k apart) (inv.fits k)));
      unwritten = inv.unwritten;
      room = λ k here. let both = inv.room k here in (marked-room is_r n k r both.0, both.1);
    }

-- the board was closed, and all numbers from `first` on, those before which are gone, were marked anew
pub AreRuns-closed : (core : Core) (r r' u : Marked) (first end : ℕ) → end ≡ length core.stages → ((k : ℕ) → k < first → stage_at core k ≡ Gone)
    → ((k : ℕ) → first ≤ k → k < end → is_in r' k ≡ is_ready_stage (with_board_closed core.desk) (stage_at core k))
    → ((k : ℕ) → k < first → is_in r' k ≡ is_in r k) → ((k : ℕ) → end ≤ k → is_in r' k ≡ is_in r k) → ((k : ℕ) → HasRoom r k → HasRoom r' k)
    → AreRuns core r u → AreRuns (with_desk core (with_board_closed core.desk)) r' u
AreRuns-closed core r r' u first end all gone within below beyond room inv =
    let d = with_board_closed core.desk in
    record {
      numbers = inv.numbers;
      few = inv.few;
      fits = λ k. fits-stage core.desk d k (stage_at core k) refl (inv.fits k);
      ready = λ k. by_place k (nat_le first k) (nat_le end k) refl refl;
      unwritten = inv.unwritten;
      room = λ k here. let both = inv.room k here in (room k both.0, both.1);
    }
  where
    gone-ready : (k : ℕ) → stage_at core k ≡ Gone → is_ready_stage core.desk (stage_at core k) ≡ is_ready_stage (with_board_closed core.desk) (stage_at core k)
    gone-ready k is = ap (is_ready_stage core.desk) is ∙ ap (is_ready_stage (with_board_closed core.desk)) (sym is)

    by_place : (k : ℕ) (reached past : Bool) → nat_le first k ≡ reached → nat_le end k ≡ past → is_in r' k ≡ is_ready_stage (with_board_closed core.desk) (stage_at core k)
    by_place k false past low high =
        let before : k < first = grind (arith, low) in
        below k before ∙ inv.ready k ∙ gone-ready k (gone k before)
    by_place k true true low high =
        let behind : end ≤ k = grind (arith, high) in
        beyond k behind ∙ inv.ready k ∙ gone-ready k (gone-beyond core.stages k (omega (arith, all, behind)))
    by_place k true false low high = within k (grind (arith, low)) (grind (arith, high))
