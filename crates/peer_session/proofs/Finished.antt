-- Numbers are finished, and a cancel can reach fewer.
use Rattle.std.proofs.Common.{◌≡◌, ℕ, zero, suc, ◌+◌, ◌<◌, ◌≤◌, List, [], ◌∷◌, set, slice_index_or, Bool, true, false, ◌&&◌, if◌then◌else◌, is_some, Option, Some, None, refl, ap, ◌∙◌, arith}
use Rattle.message_ids.specs.Ids.{has_id}
use Rattle.message_ids.specs.declared.id.Id.{Id}
use Rattle.rpc_messages.specs.declared.reply.Reply.{Reply}
use Rattle.rpc_messages.specs.declared.reply.Reply.TheVariants.{Standard as Fixed}
use Rattle.message_ids.specs.declared.standard.Standard.TheVariants.{Cancelled}
use Rattle.open_numbers.specs.declared.open_call.OpenCall.{OpenCall}
use Rattle.answer_desk.specs.State.{State, numbers_with, is_open, number_at, reply_of, without_reply, with_reached, with_end}
use Rattle.open_numbers.specs.OpenCalls.{marked, is_in_reach}
use Rattle.handler_future.specs.State.{HandlerState}
use Rattle.peer_events.specs.declared.stage.Stage.{Stage}
use Rattle.peer_events.specs.declared.stage.Stage.TheVariants.{Gone, Faulty, Idle, Out, Over, Failed}
use Rattle.peer_events.specs.Core.{Core, stage_at, with_stage, with_desk}
use Rattle.peer_events.specs.Hearing.{hear_if, hear_turns, hear_waits}
use Rattle.peer_events.specs.Finishing.{over_or_gone, cancelled, told_at, told}
use Rattle.peer_session.specs.Inner.Marks.{count_in_reach}
use Rattle.session_runs.proofs.Boards.{take-open}
use Rattle.session_runs.proofs.Unwritten.{set-again}

-- ---- what hearing leaves

hear-number : (h : HandlerState) (turn : ℕ) (reply : Option Reply) → (hear_if h turn reply).number ≡ h.number
hear-number h turn None = refl
hear-number h turn (Some reply) = refl

hears-number-of : (d : State) (h : HandlerState) (turns : List ℕ) → (hear_turns d h turns).handler.number ≡ h.number
hears-number-of d h [] = refl
hears-number-of d h (turn ∷ turns) =
    hears-number-of (without_reply d h.number turn) (hear_if h turn (reply_of d h.number turn)) turns ∙ hear-number h turn (reply_of d h.number turn)

pub hears-number : (d : State) (h : HandlerState) → (hear_waits d h).handler.number ≡ h.number
hears-number d h = hears-number-of d h h.waits

hears-open-of : (d : State) (h : HandlerState) (turns : List ℕ) (k : ℕ) → is_open (hear_turns d h turns).desk k ≡ is_open d k
hears-open-of d h [] k = refl
hears-open-of d h (turn ∷ turns) k =
    hears-open-of (without_reply d h.number turn) (hear_if h turn (reply_of d h.number turn)) turns k ∙ take-open d h.number turn k

pub hears-open : (d : State) (h : HandlerState) (k : ℕ) → is_open (hear_waits d h).desk k ≡ is_open d k
hears-open d h k = hears-open-of d h h.waits k

-- ---- a handler that was taken out is finished as if it were in its place

pub set-over : (stages : List Stage) (n m : ℕ) (a b : Stage) → m ≡ n → set (set stages n a) m b ≡ set stages m b
set-over stages n m a b same = rw same (set-again stages n a b)

pub cancelled-over : (core : Core) (n : ℕ) (stage : Stage) (h : HandlerState) (written : ℕ) → h.number ≡ n → cancelled (with_stage core n stage) h written ≡ cancelled core h written
cancelled-over core n stage h written number =
    let hearing = hear_waits core.desk h in
    let same : hearing.handler.number ≡ n = hears-number core.desk h ∙ number in
    ap (λ ss. record { desk = with_end hearing.desk hearing.handler.number (Fixed Cancelled); stages = ss })
    (set-over core.stages n hearing.handler.number stage (over_or_gone hearing.handler written) same)

-- ---- what a cancel can reach yet

more-if : (hit : Bool) (n m : ℕ) → n ≤ m → (if hit then n + 1 else n) ≤ (if hit then m + 1 else m)
more-if true n m less = omega (arith, less)
more-if false n m less = less

strict-if : (hit : Bool) (n m : ℕ) → n < m → (if hit then n + 1 else n) < (if hit then m + 1 else m)
strict-if true n m less = omega (arith, less)
strict-if false n m less = less

none-if : (hit : Bool) (n : ℕ) → n ≤ (if hit then n + 1 else n)
none-if true n = omega arith
none-if false n = omega arith

and-false : (b : Bool) → (b && false) ≡ false
and-false true = refl
and-false false = refl

module _ (id : Id) where
  ended-count : (numbers : List (Option OpenCall)) (n : ℕ) → count_in_reach id (set numbers n None) ≤ count_in_reach id numbers
  ended-count [] n = omega arith
  ended-count (x ∷ xs) zero = none-if (is_in_reach id x) (count_in_reach id xs)
  ended-count (x ∷ xs) (suc n) = more-if (is_in_reach id x) (count_in_reach id (set xs n None)) (count_in_reach id xs) (ended-count xs n)

  changed-count : (change : OpenCall → OpenCall) → ((m : OpenCall) → is_in_reach id (Some (change m)) ≡ is_in_reach id (Some m))
      → (numbers : List (Option OpenCall)) (n : ℕ) → count_in_reach id (numbers_with numbers n change) ≡ count_in_reach id numbers
  changed-count change same [] n = refl
  changed-count change same (None ∷ xs) zero = refl
  changed-count change same (Some x ∷ xs) zero = ap (λ b. if b then count_in_reach id xs + 1 else count_in_reach id xs) (same x)
  changed-count change same (x ∷ xs) (suc n) = ap (λ c. if is_in_reach id x then c + 1 else c) (changed-count change same xs n)

  reached-count : (numbers : List (Option OpenCall)) (n : ℕ) → is_in_reach id (slice_index_or numbers n None) ≡ true
      → count_in_reach id (numbers_with numbers n marked) < count_in_reach id numbers
  reached-count [] n is = cc
  reached-count (None ∷ xs) zero is = cc
  reached-count (Some x ∷ xs) zero is = rw (and-false (has_id id x.id), is) (omega arith)
  reached-count (x ∷ xs) (suc n) is = strict-if (is_in_reach id x) (count_in_reach id (numbers_with xs n marked)) (count_in_reach id xs) (reached-count xs n is)

  taken-count : (some : Bool) (d : State) (n turn : ℕ) → is_some (reply_of d n turn) ≡ some → count_in_reach id (without_reply d n turn).numbers ≡ count_in_reach id d.numbers
  taken-count true d n turn is = rw is (changed-count _ (λ m. refl) d.numbers n)
  taken-count false d n turn is = rw is refl

  hears-count : (d : State) (h : HandlerState) (turns : List ℕ) → count_in_reach id (hear_turns d h turns).desk.numbers ≡ count_in_reach id d.numbers
  hears-count d h [] = refl
  hears-count d h (turn ∷ turns) =
      hears-count (without_reply d h.number turn) (hear_if h turn (reply_of d h.number turn)) turns ∙ taken-count (is_some (reply_of d h.number turn)) d h.number turn refl

  finished-count : (core : Core) (stage : Stage) → count_in_reach id (told_at core stage).desk.numbers ≤ count_in_reach id core.desk.numbers
  finished-count core (Idle h written) =
      let heard = hears-count core.desk h h.waits in
      let hearing = hear_waits core.desk h in
      omega (arith, heard, ended-count hearing.desk.numbers hearing.handler.number)
  finished-count core Gone = omega arith
  finished-count core (Faulty error) = omega arith
  finished-count core (Out written) = omega arith
  finished-count core (Over h written) = omega arith
  finished-count core Failed = omega arith

  -- once a number was told of a cancel, the cancel reaches it no more
  pub fewer-in_reach : (core : Core) (n : ℕ) → is_in_reach id (number_at core.desk n) ≡ true
      → count_in_reach id (told core n).desk.numbers < count_in_reach id core.desk.numbers
  fewer-in_reach core n is =
      let after = with_desk core (with_reached core.desk (Some n)) in
      let less : count_in_reach id after.desk.numbers < count_in_reach id core.desk.numbers = reached-count core.desk.numbers n is in
      omega (arith, less, finished-count after (stage_at core n))
