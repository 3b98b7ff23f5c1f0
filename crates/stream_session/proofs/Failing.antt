-- Which events leave a stage Failed: only a job that comes back after a poll that failed.
use Rattle.std.proofs.Common.{◌≡◌, ◌≢◌, ℕ, zero, suc, List, [], ◌∷◌, map, get_or, set, Bool, true, false, cond, ◌||◌, Option, Some, None, refl, sym, ap, subst, ◌∙◌}
use Rattle.std.specs.Prelude.{◌+◌, nat_lt, length}
use Rattle.answer_desk.specs.State.{State, number_at, without_front}
use Rattle.open_numbers.specs.OpenCalls.{is_marked_number}
use Rattle.handler_future.specs.declared.outcome.Outcome.{Outcome}
use Rattle.handler_future.specs.declared.outcome.Outcome.TheVariants.{Answer, Failed as NoMemory}
use Rattle.handler_future.specs.State.{HandlerState}
use Rattle.peer_events.specs.declared.stage.Stage.{Stage}
use Rattle.peer_events.specs.declared.stage.Stage.TheVariants.{Gone, Faulty, Idle, Out, Over, Failed}
use Rattle.peer_events.specs.Core.{Core, stage_at}
use Rattle.peer_events.specs.Hearing.{hear_waits}
use Rattle.peer_events.specs.Finishing.{over_or_gone, cancelled}
use Rattle.peer_events.specs.Turning.{Leaves, drained, ready, ready_from, is_ready_stage, returned, returned_to, written_stage}
use Rattle.peer_session.specs.Events.{is_failure}

abbrev pub NoneFailed : List Stage → Type 0
NoneFailed stages = (n : ℕ) → get_or stages n Gone ≢ Failed

-- ---- a stage that isn't Failed comes in place of another

pub none-set : (stages : List Stage) (n : ℕ) (stage : Stage) → stage ≢ Failed → NoneFailed stages → NoneFailed (set stages n stage)
none-set [] n stage not none k = none k
none-set (s ∷ stages) zero stage not none zero = not
none-set (s ∷ stages) zero stage not none (suc k) = none (suc k)
none-set (s ∷ stages) (suc n) stage not none zero = none zero
none-set (s ∷ stages) (suc n) stage not none (suc k) = none-set stages n stage not (λ m. none (suc m)) k

idle_not : (h : HandlerState) (written : ℕ) → Idle h written ≢ Failed
idle_not h written is = cc

out_not : (written : ℕ) → Out written ≢ Failed
out_not written is = cc

pub over_not : (h : HandlerState) (written : ℕ) (b : Bool) → cond b (Over h written) Gone ≢ Failed
over_not h written true is = cc
over_not h written false is = cc

pending_not : (s : Core) (h : HandlerState) (written : ℕ) (b : Bool) → NoneFailed s.stages
    → NoneFailed (cond b (cancelled s h written) (record s { stages = set s.stages h.number (Idle h written) })).stages
pending_not s h written true none =
    let heard = (hear_waits s.desk h).handler in
    none-set s.stages heard.number (over_or_gone heard written) (over_not heard written (nat_lt written (length heard.messages + length heard.waits))) none
pending_not s h written false none = none-set s.stages h.number (Idle h written) (idle_not h written) none

back_not : (s : Core) (h : HandlerState) (outcome : Option Outcome) (stage : Stage) → is_failure outcome ≡ false → NoneFailed s.stages
    → NoneFailed (returned_to s h outcome stage).stages
back_not s h None (Out written) well none = pending_not s h written (is_marked_number (number_at s.desk h.number)) none
back_not s h (Some (Answer answer)) (Out written) well none =
    none-set s.stages h.number (over_or_gone h written) (over_not h written (nat_lt written (length h.messages + length h.waits))) none
back_not s h (Some NoMemory) (Out written) well none = absurd (cc)
back_not s h outcome Gone well none = none
back_not s h outcome (Faulty error) well none = none
back_not s h outcome (Idle other written) well none = none
back_not s h outcome (Over other written) well none = none
back_not s h outcome Failed well none = none

pub or_first : (a b : Bool) → (a || b) ≡ false → a ≡ false
or_first true b is = is
or_first false b is = refl

pub or_second : (a b : Bool) → (a || b) ≡ false → b ≡ false
or_second true b is = cc
or_second false b is = is

pub well-not : (outcome : Option Outcome) → is_failure outcome ≡ false → outcome ≢ Some NoMemory
well-not None well is = cc
well-not (Some (Answer answer)) well is = cc
well-not (Some NoMemory) well is = absurd (cc)

-- A handler that goes out leaves no stage Failed.
pub leaves-not : (s after : Core) (n : ℕ) (job : HandlerState) → Leaves s n job after → NoneFailed s.stages → NoneFailed after.stages
leaves-not s after n job leaves none =
    subst NoneFailed (sym (ap (λ (c : Core). c.stages) leaves.after_is)) (none-set s.stages n (Out leaves.so_far) (out_not leaves.so_far) none)

-- A job that comes back leaves none, unless its poll has failed.
pub back-not : (s : Core) (turned : HandlerState) (outcome : Option Outcome) (has_failed : Bool)
    → (has_failed ≡ false → NoneFailed s.stages) → (has_failed || is_failure outcome) ≡ false → NoneFailed (returned s turned outcome).stages
back-not s turned outcome has_failed none well =
    back_not s turned outcome (stage_at s turned.number) (or_second has_failed (is_failure outcome) well) (none (or_first has_failed (is_failure outcome) well))

-- ---- what a drain leaves

written_not : (stage : Stage) → stage ≢ Failed → written_stage stage ≢ Failed
written_not Gone not is = cc
written_not (Faulty error) not is = cc
written_not (Idle h so_far) not is = cc
written_not (Out so_far) not is = cc
written_not (Over h so_far) not is = cc
written_not Failed not is = not refl

pub drained-not : (stages : List Stage) → NoneFailed stages → NoneFailed (map written_stage stages)
drained-not [] none k = none k
drained-not (s ∷ stages) none zero = written_not s (none zero)
drained-not (s ∷ stages) none (suc k) = drained-not stages (λ m. none (suc m)) k

-- ---- which handlers are ready behind it

ready_same : (desk : State) (stage : Stage) → is_ready_stage (without_front desk) (written_stage stage) ≡ is_ready_stage desk stage
ready_same desk Gone = refl
ready_same desk (Faulty error) = refl
ready_same desk (Idle h so_far) = refl
ready_same desk (Out so_far) = refl
ready_same desk (Over h so_far) = refl
ready_same desk Failed = refl

ready_from-drained : (desk : State) (n : ℕ) (stages : List Stage) → ready_from (without_front desk) n (map written_stage stages) ≡ ready_from desk n stages
ready_from-drained desk n [] = refl
ready_from-drained desk n (stage ∷ stages) =
    ap (λ b. cond b (n ∷ ready_from (without_front desk) (n + 1) (map written_stage stages)) (ready_from (without_front desk) (n + 1) (map written_stage stages))) (ready_same desk stage)
    ∙ ap (λ l. cond (is_ready_stage desk stage) (n ∷ l) l) (ready_from-drained desk (n + 1) stages)

pub ready-drained : (s : Core) → ready (drained s) ≡ ready s
ready-drained s = ready_from-drained s.desk 0 s.stages
