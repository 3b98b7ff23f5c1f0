-- Handlers can't be turned for ever.
use Rattle.std.proofs.Common.{◌≡◌, ℕ, ◌+◌, ◌-◌, ◌<◌, ◌≤◌, List, [], ◌∷◌, ◌++◌, length, map, get_or, set, Bool, true, false, cond, Option, Some, None, refl, sym, ap, subst, ◌∙◌, arith}
use Rattle.std.specs.Prelude.{nat_lt}
use Rattle.std.proofs.lemmas.List.{get_or-set_same, length-set, length-append}
use Rattle.std.proofs.lemmas.List.Sums.{sum_by-cons, sum_by-set}
use Rattle.answer_desk.specs.State.{number_at}
use Rattle.open_numbers.specs.OpenCalls.{is_marked_number}
use Rattle.handler_future.specs.declared.message.Message.{Message}
use Rattle.handler_future.specs.declared.message.Message.TheVariants as message
use Rattle.handler_future.specs.declared.outcome.Outcome.{Outcome}
use Rattle.handler_future.specs.declared.outcome.Outcome.TheVariants.{Answer, Failed as NoMemory}
use Rattle.handler_future.specs.Evaluation.{Replies, Program, evaluation}
use Rattle.handler_future.specs.Front.{heard_replies, is_heard, front, until_waiting}
use Rattle.handler_future.specs.State.{HandlerState, IsWaiting, IsPoll, AddsCalls}
use Rattle.peer_events.specs.declared.stage.Stage.{Stage}
use Rattle.peer_events.specs.declared.stage.Stage.TheVariants.{Gone, Faulty, Idle, Out, Over, Failed}
use Rattle.peer_events.specs.Core.{Core, stage_at}
use Rattle.peer_events.specs.Hearing.{hear_waits}
use Rattle.peer_events.specs.Finishing.{over_or_gone, cancelled}
use Rattle.peer_events.specs.Turning.{Leaves, returned, returned_to, written_stage}
use Rattle.peer_events.specs.Turns.{turns_left, all_turns_left}
use Rattle.peer_events.specs.Inner.Known.{Known}
use Rattle.peer_events.proofs.Pointwise.{stage-within}
use Rattle.peer_events.proofs.Hears.{waits-heard}
use Rattle.peer_events.proofs.Waits.{ready-hears_all}

-- ---- what is written changes nothing

stage-written : (stage : Stage) → turns_left (written_stage stage) ≡ turns_left stage
stage-written Gone = refl
stage-written (Faulty error) = refl
stage-written (Idle h so_far) = refl
stage-written (Out so_far) = refl
stage-written (Over h so_far) = refl
stage-written Failed = refl

pub stages-written : (stages : List Stage) → all_turns_left (map written_stage stages) ≡ all_turns_left stages
stages-written [] = refl
stages-written (stage ∷ stages) =
    sum_by-cons turns_left (written_stage stage) (map written_stage stages)
    ∙ ap (λ k. k + all_turns_left (map written_stage stages)) (stage-written stage)
    ∙ ap (λ k. turns_left stage + k) (stages-written stages)
    ∙ sym (sum_by-cons turns_left stage stages)

-- ---- a number that goes out and comes back into another stage

pub replaced-twice : (stages : List Stage) (n : ℕ) (middle last : Stage) → n < length stages → turns_left middle ≡ 0
    → all_turns_left (set (set stages n middle) n last) + turns_left (get_or stages n Gone) ≡ all_turns_left stages + turns_left last
replaced-twice stages n middle last within none =
    let first = sum_by-set turns_left stages n middle Gone within in
    let second = sum_by-set turns_left (set stages n middle) n last Gone (subst (λ k. n < k) (sym (length-set stages n middle)) within) in
    let here : turns_left (get_or (set stages n middle) n Gone) ≡ 0 = ap turns_left (get_or-set_same stages n middle Gone within) ∙ none in
    omega arith

over_none : (h : HandlerState) (written : ℕ) → turns_left (over_or_gone h written) ≡ 0
over_none h written = step (nat_lt written (length h.messages + length h.waits))
  where
    step : (b : Bool) → turns_left (cond b (Over h written) Gone) ≡ 0
    step true = refl
    step false = refl

module _ (known : Known)
    (begins : (is_known : ℕ → Bool) (messages : List Message) → (rest : List Message) × (messages ≡ until_waiting is_known messages ++ rest))
    (few : (program : Program) (replies : Replies) → length (evaluation replies program).messages ≤ length program.steps)
  where
    waiting-few : (h : HandlerState) → IsWaiting h → length h.messages ≤ length h.program.steps
    waiting-few h waits =
        let all = begins (is_heard h.heard) (evaluation (heard_replies h.heard) h.program).messages in
        let most = few h.program (heard_replies h.heard) in
        let sum : length (evaluation (heard_replies h.heard) h.program).messages ≡ length (front h.program h.heard) + length all.0 =
        ap length all.1 ∙ length-append (front h.program h.heard) all.0 in
        let same : length h.messages ≡ length (front h.program h.heard) = ap length waits.messages in
        omega arith

    module _ (s : Core) (n : ℕ) (job : HandlerState) (between : Core) (leaves : Leaves s n job between) (is_n : job.number ≡ n)
        (turned : HandlerState) where
      abbrev handler : HandlerState
      handler = leaves.handler

      abbrev so_far : ℕ
      so_far = leaves.so_far

      idle_or_gone : (stage : Stage) → stage ≡ Idle handler so_far → stage ≡ Gone → ⊥
      idle_or_gone stage idle gone = gone-idle (sym gone ∙ idle)
        where
          gone-idle : Gone ≡ Idle handler so_far → ⊥
          gone-idle is = cc

      within : n < length s.stages
      within = stage-within s.stages n (idle_or_gone (get_or s.stages n Gone) leaves.stage)

      was : turns_left (get_or s.stages n Gone) ≡ 1 + (length handler.program.steps - length handler.messages)
      was = ap turns_left leaves.stage

      messages-stay : length job.messages ≡ length handler.messages
      messages-stay = ap (λ (h : HandlerState). length h.messages) leaves.job_is ∙ ap length (waits-heard known s.desk handler).messages

      steps-stay : length job.program.steps ≡ length handler.program.steps
      steps-stay = ap (λ (h : HandlerState). length h.program.steps) leaves.job_is ∙ ap (λ (p : Program). length p.steps) (waits-heard known s.desk handler).program

      waits-none : job.waits ≡ []
      waits-none = ap (λ (h : HandlerState). h.waits) leaves.job_is ∙ ready-hears_all known s.desk handler leaves.is_ready

      stages-are : between.stages ≡ set s.stages n (Out so_far)
      stages-are = ap (λ (c : Core). c.stages) leaves.after_is

      last-fewer : (k : ℕ) (last : Stage) → k ≡ n → turns_left last < 1 + (length handler.program.steps - length handler.messages)
          → all_turns_left (set between.stages k last) < all_turns_left s.stages
      last-fewer k last is less =
          let stages : set between.stages k last ≡ set (set s.stages n (Out so_far)) n last = ap (λ l. set l k last) stages-are ∙ ap (λ m. set (set s.stages n (Out so_far)) m last) is in
          let sum = replaced-twice s.stages n (Out so_far) last within refl in
          subst (λ l. all_turns_left l < all_turns_left s.stages) (sym stages) (let w = was in omega arith)

      found : turned.number ≡ n → stage_at between turned.number ≡ Out so_far
      found is = ap (λ l. get_or l turned.number Gone) stages-are ∙ ap (λ k. get_or (set s.stages n (Out so_far)) k Gone) is
          ∙ get_or-set_same s.stages n (Out so_far) Gone within

      more-made : (before after : List Message) → AddsCalls before after → length before < length after
      more-made before after adds =
          let notices = map message.Notice adds.added.notices in
          let sum : length after ≡ length before + length (notices ++ adds.last ∷ []) = ap length adds.added.made ∙ length-append before (notices ++ adds.last ∷ []) in
          let tail : length (notices ++ adds.last ∷ []) ≡ length notices + 1 = length-append notices (adds.last ∷ []) in
          omega arith

      pending-fewer : IsPoll job turned None → turns_left (Idle turned so_far) < 1 + (length handler.program.steps - length handler.messages)
      pending-fewer poll =
          let more = more-made job.messages turned.messages (poll.adds waits-none) in
          let most = waiting-few turned poll.leaves in
          let same : length turned.program.steps ≡ length job.program.steps = ap (λ (p : Program). length p.steps) poll.same_program in
          let m = messages-stay in
          let q = steps-stay in
          omega arith

      pending-back : (is_marked : Bool) → turned.number ≡ n → IsPoll job turned None
          → all_turns_left (cond is_marked (cancelled between turned so_far) (record between { stages = set between.stages turned.number (Idle turned so_far) })).stages < all_turns_left s.stages
      pending-back true is poll =
          let heard = hear_waits between.desk turned in
          last-fewer heard.handler.number (over_or_gone heard.handler so_far) ((waits-heard known between.desk turned).number ∙ is)
          (let none = over_none heard.handler so_far in omega arith)
      pending-back false is poll = last-fewer turned.number (Idle turned so_far) is (pending-fewer poll)

      back-fewer : (outcome : Option Outcome) → turned.number ≡ n → IsPoll job turned outcome
          → all_turns_left (returned_to between turned outcome (Out so_far)).stages < all_turns_left s.stages
      back-fewer None is poll = pending-back (is_marked_number (number_at between.desk turned.number)) is poll
      back-fewer (Some (Answer answer)) is poll = last-fewer turned.number (over_or_gone turned so_far) is (let none = over_none turned so_far in omega arith)
      back-fewer (Some NoMemory) is poll = last-fewer turned.number Failed is (omega arith)

      pub fewer : (outcome : Option Outcome) → IsPoll job turned outcome → all_turns_left (returned between turned outcome).stages < all_turns_left s.stages
      fewer outcome poll =
          let is : turned.number ≡ n = poll.same_number ∙ is_n in
          subst (λ stage. all_turns_left (returned_to between turned outcome stage).stages < all_turns_left s.stages) (sym (found is)) (back-fewer outcome is poll)
