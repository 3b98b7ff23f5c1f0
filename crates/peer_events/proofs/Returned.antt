-- A job comes back.
use Rattle.std.proofs.Common.{◌≡◌, ◌≢◌, ℕ, ◌==◌, ◌<◌, ◌≤◌, List, [], ◌++◌, length, map, get_or, set, take, Bool, true, false, cond, Option, Some, None, ◌⊎◌, inl, inr, refl, sym, ap, subst, ◌∙◌, arith, length-append, append-nil}
use Rattle.std.proofs.lemmas.Bool.{cond-true, cond-false}
use Rattle.std.proofs.lemmas.List.{get_or-set_same, get_or-set_other, length-set, map-append, take-append-le}
use Rattle.rpc_messages.specs.Entry.{SeenEntry}
use Rattle.rpc_messages.specs.Numbering.{numbers_in, units_numbers}
use Rattle.rpc_messages.specs.declared.reply.Reply.{Reply}
use Rattle.method_templates.specs.Steps.{calls_of}
use Rattle.method_steps.specs.Steps.{MethodTable}
use Rattle.open_numbers.specs.declared.open_call.OpenCall.{OpenCall}
use Rattle.open_numbers.specs.declared.replies.Slot.{Slot}
use Rattle.open_numbers.specs.declared.replies.Slot.TheVariants.{Empty, Held, Given}
use Rattle.answer_desk.specs.State.{number_at}
use Rattle.open_numbers.specs.OpenCalls.{is_marked_number}
use Rattle.handler_future.specs.declared.outcome.Outcome.{Outcome}
use Rattle.handler_future.specs.declared.outcome.Outcome.TheVariants.{Answer, Failed as NoMemory}
use Rattle.handler_future.specs.Evaluation.{Program}
use Rattle.handler_future.specs.Front.{is_heard}
use Rattle.handler_future.specs.State.{HandlerState, IsWaiting, HasEnded, IsPoll}
use Rattle.peer_events.specs.declared.stage.Stage.{Stage}
use Rattle.peer_events.specs.declared.stage.Stage.TheVariants.{Gone, Faulty, Idle, Out, Over, Failed}
use Rattle.peer_output.specs.Work.{run}
use Rattle.peer_output.specs.Cancelled.{Begins, is_cancelled}
use Rattle.peer_output.specs.Course.{Sending, message, withdrawal, Course}
use Rattle.peer_output.specs.Events.{with_at, with_sends, with_course}
use Rattle.peer_output.specs.Items.{sent_by}
use Rattle.peer_output.specs.Later.{IsHeardFrom}
use Rattle.peer_output.specs.Past.{Past, past_units, past_entries, IsPast}
use Rattle.peer_events.specs.Core.{Core, stage_at, with_stage, made_by}
use Rattle.peer_events.specs.Finishing.{finished, cancelled, cancelled_course}
use Rattle.peer_events.specs.Fits.{SlotFits, RunFits, NumberFits, AtRest}
use Rattle.peer_events.specs.Hearing.{hear_waits}
use Rattle.peer_events.specs.Inner.Known.{Known}
use Rattle.peer_events.specs.Passing.{unanswered}
use Rattle.peer_events.specs.Turning.{returned, returned_with, returned_to}
use Rattle.peer_events.proofs.Beside.{Beside, along-fits, fits-beside, beside-fits, same-fits, beside-changed}
use Rattle.peer_events.proofs.Cancelled.{IsWritten, IsHere, finished-fits, cancelled-fits}
use Rattle.peer_events.proofs.Hears.{waits-heard}
use Rattle.peer_events.proofs.Pointwise.{at-here, at-elsewhere}
use Rattle.peer_events.proofs.Streams.{numbers-along}
use Rattle.peer_events.proofs.Unanswered.{waits-unanswered}
use Rattle.peer_events.proofs.Waits.{closed-ready, ready-hears_all}

-- ---- the job that is out

-- what is known of it
pub record IsOut (table : MethodTable) (is_over : Bool) (s : Core) (past : Past) (n : ℕ) (job : HandlerState) : Type 0 where
  pub so_far : ℕ
  pub stage : stage_at s n ≡ Out so_far
  pub runs : RunFits table is_over (past_entries past) (past_entries past) n job (number_at s.desk n) (past.sends n) (past.took n)
  pub no_waits : job.waits ≡ []
  pub written : IsWritten past n so_far
  pub given : n ≤ units_numbers (past_units past)

module _ (table : MethodTable) (is_over : Bool) (s : Core) (past : Past) (jobs : ℕ → Option HandlerState) (n : ℕ) (job : HandlerState) (is_out : jobs n ≡ Some job)
    (given : n ≤ units_numbers (past_units past)) where
  out_of : (stage : Stage) → stage_at s n ≡ stage
      → NumberFits table is_over (past_entries past) (past_entries past) n stage (number_at s.desk n) (jobs n) (past.sends n) (sent_by n past.items) (past.took n)
      → IsOut table is_over s past n job
  out_of Gone is fits = absurd (let none = fits.1 in cc)
  out_of (Faulty error) is fits = absurd (let none = fits.1 in cc)
  out_of (Idle h so_far) is fits = absurd (let none = fits.3 in cc)
  out_of (Out so_far) is fits =
      let same : fits.0 ≡ job = let some = fits.1 in cc in
      record {
        so_far = so_far;
        stage = is;
        runs = subst (λ g. RunFits table is_over (past_entries past) (past_entries past) n g (number_at s.desk n) (past.sends n) (past.took n)) same fits.3;
        no_waits = ap (λ (g : HandlerState). g.waits) (sym same) ∙ fits.2;
        written = record { written = fits.4; within = fits.5 };
        given = given;
      }
  out_of (Over h so_far) is fits = absurd (let none = fits.1 in cc)
  out_of Failed is fits = absurd (let none = fits.0 in cc)

given_if : (past : Past) (jobs : ℕ → Option HandlerState) (n : ℕ) (job : HandlerState) → jobs n ≡ Some job
    → ((k : ℕ) → units_numbers (past_units past) < k → jobs k ≡ None)
    → (n ≤ units_numbers (past_units past)) ⊎ (units_numbers (past_units past) < n) → n ≤ units_numbers (past_units past)
given_if past jobs n job is_out none (inl given) = given
given_if past jobs n job is_out none (inr later) = absurd (let no_job : jobs n ≡ None = none n later in cc)

pub job-out : (table : MethodTable) (is_over : Bool) (s : Core) (past : Past) (jobs : ℕ → Option HandlerState) (n : ℕ) (job : HandlerState)
    → AtRest table is_over s past jobs → jobs n ≡ Some job → IsOut table is_over s past n job
job-out table is_over s past jobs n job rest is_out =
    let given = given_if past jobs n job is_out rest.no_more_jobs (grind arith) in
    out_of table is_over s past jobs n job is_out given (stage_at s n) refl (rest.each n given)

-- ---- once it was polled

slot_same : (passed : List SeenEntry) (n : ℕ) (h g : HandlerState) (turn : ℕ) (slot : Slot) → g.heard ≡ h.heard → SlotFits passed n h turn slot → SlotFits passed n g turn slot
slot_same passed n h g turn Empty same fits = (fits.0, ap (λ l. is_heard l turn) same ∙ fits.1)
slot_same passed n h g turn (Held r) same fits = (fits.0, ap (λ l. is_heard l turn) same ∙ fits.1)
slot_same passed n h g turn Given same fits = ap (λ l. is_heard l turn) same ∙ fits

pub run-polled : (table : MethodTable) (is_over : Bool) (entries passed : List SeenEntry) (n : ℕ) (job turned : HandlerState) (outcome : Option Outcome)
    (desk : Option OpenCall) (sends : List Sending) (took : Option Course) → IsPoll job turned outcome
    → RunFits table is_over entries passed n job desk sends took → RunFits table is_over entries passed n turned desk (made_by turned) took
run-polled table is_over entries passed n job turned outcome desk sends took polled fits = record {
  number = polled.same_number ∙ fits.number;
  works = fits.works ∙ ap run (sym polled.same_program);
  heard = subst (IsHeardFrom is_over passed n) (sym polled.same_heard) fits.heard;
  sends_are = refl;
  unfinished = fits.unfinished;
  kept = fits.kept;
  is_open = fits.is_open;
  fits = record {
    id = fits.fits.id;
    mark = fits.fits.mark;
    turns = fits.fits.turns ∙ ap (λ (p : Program). calls_of p.steps) (sym polled.same_program);
    slots = λ turn slot at. slot_same passed n job turned turn slot polled.same_heard (fits.fits.slots turn slot at);
  };
}

-- it has sent more
more_sent : (job turned : HandlerState) (sends : List Sending) (outcome : Option Outcome) → IsPoll job turned outcome → sends ≡ made_by job → Begins sends (made_by turned)
more_sent job turned sends outcome polled is = record {
  rest = map message polled.messages_stay.0;
  joined = ap (map message) polled.messages_stay.1 ∙ map-append message job.messages polled.messages_stay.0 ∙ ap (λ l. l ++ map message polled.messages_stay.0) (sym is);
}

-- ---- what comes back goes to its number

returned_out : (s : Core) (turned : HandlerState) (outcome : Option Outcome) (n so_far : ℕ) → turned.number ≡ n → stage_at s n ≡ Out so_far
    → returned s turned outcome ≡ returned_with s turned so_far outcome
returned_out s turned outcome n so_far is stage = ap (returned_to s turned outcome) (ap (stage_at s) is ∙ stage)

module _ (known : Known) (table : MethodTable) (is_over : Bool) (s : Core) (past : Past) (jobs : ℕ → Option HandlerState) (n : ℕ) (job turned : HandlerState)
    (outcome : Option Outcome) (rest : AtRest table is_over s past jobs) (is_out : jobs n ≡ Some job) (polled : IsPoll job turned outcome) where
  out : IsOut table is_over s past n job
  out = job-out table is_over s past jobs n job rest is_out

  number_is : turned.number ≡ n
  number_is = polled.same_number ∙ out.runs.number

  turned_runs : RunFits table is_over (past_entries past) (past_entries past) n turned (number_at s.desk n) (made_by turned) (past.took n)
  turned_runs = run-polled table is_over (past_entries past) (past_entries past) n job turned outcome (number_at s.desk n) (past.sends n) (past.took n) polled out.runs

  turned_begins : Begins (past.sends n) (made_by turned)
  turned_begins = more_sent job turned (past.sends n) outcome polled out.runs.sends_are

  has_come : n ≤ numbers_in (past_entries past)
  has_come = let given = out.given in omega (arith, numbers-along (past_units past))

  jobs_now : ℕ → Option HandlerState
  jobs_now = with_at n None jobs

  beside_now : Beside table is_over (λ k. past_entries past) s past jobs n
  beside_now = fits-beside table is_over (past_entries past) s past jobs n rest out.given

  staged : (stage : Stage) → get_or (set s.stages turned.number stage) n Gone ≡ stage
  staged stage =
      let stages = rest.stages in
      let given = out.given in
      let within : n < length s.stages = omega arith in
      subst (λ m. get_or (set s.stages m stage) n Gone ≡ stage) (sym number_is) (get_or-set_same s.stages n stage Gone within)

  staged_other : (stage : Stage) (k : ℕ) → k ≢ n → get_or (set s.stages turned.number stage) k Gone ≡ get_or s.stages k Gone
  staged_other stage k apart = get_or-set_other s.stages turned.number k stage Gone (λ same. apart (same ∙ number_is))

  -- what is written of it, of more that it sends
  more_written : (sends : List Sending) → Begins (past.sends n) sends → (sent_by n past.items ≡ take out.so_far sends) × (out.so_far ≤ length sends)
  more_written sends begins =
      let within = out.written.within in (
        out.written.written ∙ sym (ap (take out.so_far) begins.joined ∙ take-append-le out.so_far (past.sends n) begins.rest within),
        omega (arith, ap length begins.joined, length-append (past.sends n) begins.rest),
      )

  -- ---- it found no memory

  failed_rest : AtRest table is_over (with_stage s turned.number Failed) past (with_at n None jobs)
  failed_rest =
      beside-fits table is_over (past_entries past) (with_stage s turned.number Failed) past (with_at n None jobs) n
      (beside-changed table is_over (λ k. past_entries past) s (with_stage s turned.number Failed) past past.sends past.took jobs (with_at n None jobs) n beside_now
      rest.past_is refl rest.units refl (length-set s.stages turned.number Failed) (staged_other Failed) (λ k apart. refl)
      (λ k apart. at-elsewhere n None jobs k apart) (λ k apart. refl) (λ k apart. refl))
      (same-fits table is_over (past_entries past) (past_entries past) n Failed (stage_at (with_stage s turned.number Failed) n) (number_at s.desk n) (number_at s.desk n)
      None (with_at n None jobs n) (past.sends n) (past.sends n) (sent_by n past.items) (sent_by n past.items) (past.took n) (past.took n)
      (staged Failed) refl (at-here n None jobs) refl refl refl (refl, out.runs.unfinished))

  -- ---- it has ended

  ended_rest : (answer : Reply) → HasEnded turned answer
      → AtRest table is_over (finished s turned out.so_far answer) (with_course past n (record { sends = made_by turned; answer = answer })) (with_at n None jobs)
  ended_rest answer ended =
      along-fits table is_over (past_entries past) (finished s turned out.so_far answer) (with_course past n (record { sends = made_by turned; answer = answer })) (with_at n None jobs)
      (finished-fits known table is_over (λ k. past_entries past) s past jobs (with_at n None jobs) n turned out.so_far (record { sends = made_by turned; answer = answer })
      beside_now number_is out.runs.unfinished turned_begins
      (known.ended_finishes table is_over (past_entries past) n turned answer has_come turned_runs.works turned_runs.heard ended)
      (sym (append-nil (made_by turned)) ∙ ap (λ ws. made_by turned ++ map withdrawal ws) (sym ended.no_waits))
      out.written (at-here n None jobs) (λ k apart. at-elsewhere n None jobs k apart))

  -- ---- it waits

  module _ (waiting : IsWaiting turned) where
    sent_past : IsPast table is_over (with_sends past n (made_by turned))
    sent_past = known.sends table is_over past n (made_by turned) rest.past_is out.given out.runs.unfinished turned_begins
        (known.waiting_sends table is_over (past_entries past) n turned has_come turned_runs.works turned_runs.heard waiting)

    pending_rest : is_marked_number (number_at s.desk n) ≡ false
        → AtRest table is_over (with_stage s turned.number (Idle turned out.so_far)) (with_sends past n (made_by turned)) (with_at n None jobs)
    pending_rest unmarked =
        beside-fits table is_over (past_entries past) (with_stage s turned.number (Idle turned out.so_far)) (with_sends past n (made_by turned)) (with_at n None jobs) n
        (beside-changed table is_over (λ k. past_entries past) s (with_stage s turned.number (Idle turned out.so_far)) past (with_at n (made_by turned) past.sends) past.took
        jobs (with_at n None jobs) n beside_now
        sent_past refl rest.units refl (length-set s.stages turned.number (Idle turned out.so_far)) (staged_other (Idle turned out.so_far)) (λ k apart. refl)
        (λ k apart. at-elsewhere n None jobs k apart) (λ k apart. at-elsewhere n (made_by turned) past.sends k apart) (λ k apart. refl))
        (same-fits table is_over (past_entries past) (past_entries past) n (Idle turned out.so_far) (stage_at (with_stage s turned.number (Idle turned out.so_far)) n)
        (number_at s.desk n) (number_at s.desk n) None (with_at n None jobs n) (made_by turned) (with_at n (made_by turned) past.sends n)
        (sent_by n past.items) (sent_by n past.items) (past.took n) (past.took n)
        (staged (Idle turned out.so_far)) refl (at-here n None jobs) (at-here n (made_by turned) past.sends) refl refl
        (let more = more_written (made_by turned) turned_begins in
        (turned_runs, inr waiting, unmarked, refl, more.0, more.1)))

    -- ---- it waits, and is cancelled

    beside_sent : Beside table is_over (λ k. past_entries past) s (with_sends past n (made_by turned)) jobs n
    beside_sent = beside-changed table is_over (λ k. past_entries past) s s past (with_at n (made_by turned) past.sends) past.took jobs jobs n beside_now
        sent_past refl rest.units refl refl (λ k apart. refl) (λ k apart. refl) (λ k apart. refl)
        (λ k apart. at-elsewhere n (made_by turned) past.sends k apart) (λ k apart. refl)

    turned_here : IsHere table is_over (past_entries past) s (with_sends past n (made_by turned)) n turned out.so_far
    turned_here =
        let sends : with_at n (made_by turned) past.sends n ≡ made_by turned = at-here n (made_by turned) past.sends in
        let more = more_written (made_by turned) turned_begins in
        record {
          runs = subst (λ l. RunFits table is_over (past_entries past) (past_entries past) n turned (number_at s.desk n) l (past.took n)) (sym sends) turned_runs;
          last = record { waits = waiting.waits };
          written = record {
            written = more.0 ∙ ap (take out.so_far) (sym sends);
            within = omega (arith, more.1, ap length sends);
          };
        }

    cancelled_rest : is_marked_number (number_at s.desk n) ≡ true
        → AtRest table is_over (cancelled s turned out.so_far) (with_course (with_sends past n (made_by turned)) n (cancelled_course s turned)) (with_at n None jobs)
    cancelled_rest marked =
        along-fits table is_over (past_entries past) (cancelled s turned out.so_far) (with_course (with_sends past n (made_by turned)) n (cancelled_course s turned)) (with_at n None jobs)
        (cancelled-fits known table is_over (λ k. past_entries past) s (with_sends past n (made_by turned)) jobs (with_at n None jobs) n turned out.so_far
        beside_sent turned_here (at-here n None jobs) (λ k apart. at-elsewhere n None jobs k apart) marked)

  -- ---- the four outcomes

  to_number : returned s turned outcome ≡ returned_with s turned out.so_far outcome
  to_number = returned_out s turned outcome n out.so_far number_is out.stage

-- what a finished number had sent before doesn't show
course_again : (past : Past) (n : ℕ) (sends : List Sending) (c : Course) → with_course (with_sends past n sends) n c ≡ with_course past n c
course_again past n sends c = ap (λ f. record past { sends = f; took = with_at n (Some c) past.took }) (λ i k. again_if (n == k) c.sends sends (past.sends k) i)
  where
    again_if : (b : Bool) (x y z : List Sending) → cond b x (cond b y z) ≡ cond b x z
    again_if true x y z = refl
    again_if false x y z = refl

module _ (known : Known) (table : MethodTable) (is_over : Bool) (s : Core) (past : Past) (jobs : ℕ → Option HandlerState) (n : ℕ) (job turned : HandlerState) where
  marked_there : (turned_number : turned.number ≡ n) (b : Bool) → is_marked_number (number_at s.desk n) ≡ b → is_marked_number (number_at s.desk turned.number) ≡ b
  marked_there is b marked = ap (λ m. is_marked_number (number_at s.desk m)) is ∙ marked

  pub pending-back : AtRest table is_over s past jobs → jobs n ≡ Some job → IsPoll job turned None → is_marked_number (number_at s.desk n) ≡ false
      → AtRest table is_over (returned s turned None) (with_sends past n (made_by turned)) (with_at n None jobs)
  pending-back rest is_out polled unmarked =
      let so_far = (out known table is_over s past jobs n job turned None rest is_out polled).so_far in
      let is = number_is known table is_over s past jobs n job turned None rest is_out polled in
      subst (λ after. AtRest table is_over after (with_sends past n (made_by turned)) (with_at n None jobs))
      (sym (to_number known table is_over s past jobs n job turned None rest is_out polled
      ∙ cond-false (is_marked_number (number_at s.desk turned.number)) (cancelled s turned so_far) (with_stage s turned.number (Idle turned so_far)) (marked_there is false unmarked)))
      (pending_rest known table is_over s past jobs n job turned None rest is_out polled polled.leaves unmarked)

  pub cancelled-back : AtRest table is_over s past jobs → jobs n ≡ Some job → IsPoll job turned None → is_marked_number (number_at s.desk n) ≡ true
      → AtRest table is_over (returned s turned None) (with_course past n (cancelled_course s turned)) (with_at n None jobs)
  cancelled-back rest is_out polled marked =
      let so_far = (out known table is_over s past jobs n job turned None rest is_out polled).so_far in
      let is = number_is known table is_over s past jobs n job turned None rest is_out polled in
      subst (λ p. AtRest table is_over (returned s turned None) p (with_at n None jobs)) (course_again past n (made_by turned) (cancelled_course s turned))
      (subst (λ after. AtRest table is_over after (with_course (with_sends past n (made_by turned)) n (cancelled_course s turned)) (with_at n None jobs))
      (sym (to_number known table is_over s past jobs n job turned None rest is_out polled
      ∙ cond-true (is_marked_number (number_at s.desk turned.number)) (cancelled s turned so_far) (with_stage s turned.number (Idle turned so_far)) (marked_there is true marked)))
      (cancelled_rest known table is_over s past jobs n job turned None rest is_out polled polled.leaves marked))

  pub answered-back : (answer : Reply) → AtRest table is_over s past jobs → jobs n ≡ Some job → IsPoll job turned (Some (Answer answer))
      → AtRest table is_over (returned s turned (Some (Answer answer))) (with_course past n (record { sends = made_by turned; answer = answer })) (with_at n None jobs)
  answered-back answer rest is_out polled =
      subst (λ after. AtRest table is_over after (with_course past n (record { sends = made_by turned; answer = answer })) (with_at n None jobs))
      (sym (to_number known table is_over s past jobs n job turned (Some (Answer answer)) rest is_out polled))
      (ended_rest known table is_over s past jobs n job turned (Some (Answer answer)) rest is_out polled answer polled.leaves)

  pub failed-back : AtRest table is_over s past jobs → jobs n ≡ Some job → IsPoll job turned (Some NoMemory)
      → AtRest table is_over (returned s turned (Some NoMemory)) past (with_at n None jobs)
  failed-back rest is_out polled =
      subst (λ after. AtRest table is_over after past (with_at n None jobs))
      (sym (to_number known table is_over s past jobs n job turned (Some NoMemory) rest is_out polled))
      (failed_rest known table is_over s past jobs n job turned (Some NoMemory) rest is_out polled)

  -- ---- and any

  Back : Option Outcome → Type 0
  Back outcome = (later : Past) × AtRest table is_over (returned s turned outcome) later (with_at n None jobs) × (past_units later ≡ past_units past)
      × (later.items ≡ past.items) × ((k : ℕ) → k ≢ n → (later.sends k ≡ past.sends k) × (later.took k ≡ past.took k))

  waiting_back : AtRest table is_over s past jobs → jobs n ≡ Some job → IsPoll job turned None → (marked : Bool) → is_marked_number (number_at s.desk n) ≡ marked → Back None
  unfolding Back
  waiting_back rest is_out polled true marked = (
    with_course past n (cancelled_course s turned),
    cancelled-back rest is_out polled marked,
    refl,
    refl,
    λ k apart. (at-elsewhere n (cancelled_course s turned).sends past.sends k apart, at-elsewhere n (Some (cancelled_course s turned)) past.took k apart),
  )
  waiting_back rest is_out polled false marked = (
    with_sends past n (made_by turned),
    pending-back rest is_out polled marked,
    refl,
    refl,
    λ k apart. (at-elsewhere n (made_by turned) past.sends k apart, refl),
  )

  pub any-back : (outcome : Option Outcome) → AtRest table is_over s past jobs → jobs n ≡ Some job → IsPoll job turned outcome
      → (later : Past) × AtRest table is_over (returned s turned outcome) later (with_at n None jobs) × (past_units later ≡ past_units past)
      × (later.items ≡ past.items) × ((k : ℕ) → k ≢ n → (later.sends k ≡ past.sends k) × (later.took k ≡ past.took k))
  unfolding Back
  any-back None rest is_out polled = waiting_back rest is_out polled (is_marked_number (number_at s.desk n)) refl
  any-back (Some (Answer answer)) rest is_out polled = (
    with_course past n (record { sends = made_by turned; answer = answer }),
    answered-back answer rest is_out polled,
    refl,
    refl,
    λ k apart. (at-elsewhere n (made_by turned) past.sends k apart, at-elsewhere n (Some (record { sends = made_by turned; answer = answer })) past.took k apart),
  )
  any-back (Some NoMemory) rest is_out polled = (past, failed-back rest is_out polled, refl, refl, λ k apart. (refl, refl))

-- ---- a job that is out

module _ (table : MethodTable) (is_over : Bool) (s : Core) (past : Past) (jobs : ℕ → Option HandlerState) (n : ℕ) (job : HandlerState)
    (rest : AtRest table is_over s past jobs) (is_out : jobs n ≡ Some job) where
  pub out-number : job.number ≡ n
  out-number = (job-out table is_over s past jobs n job rest is_out).runs.number

  pub out-waits : job.waits ≡ []
  out-waits = (job-out table is_over s past jobs n job rest is_out).no_waits

  pub out-unfinished : past.took n ≡ None
  out-unfinished = (job-out table is_over s past jobs n job rest is_out).runs.unfinished

  pub out-marked : is_marked_number (number_at s.desk n) ≡ is_cancelled (past_entries past) n
  out-marked = let runs = (job-out table is_over s past jobs n job rest is_out).runs in ap is_marked_number runs.is_open ∙ runs.fits.mark

-- ---- what it withdraws, once it is back

module _ (known : Known) (table : MethodTable) (s : Core) (past : Past) (jobs : ℕ → Option HandlerState) (n : ℕ) (job turned : HandlerState)
    (is_out : jobs n ≡ Some job) (polled : IsPoll job turned None) where
  pub withdraws-unanswered : AtRest table false s past jobs
      → (cancelled_course s turned).sends ≡ made_by turned ++ map withdrawal (unanswered (past_entries past) n turned.waits)
  withdraws-unanswered rest =
      ap (λ ms. map message ms ++ map withdrawal (hear_waits s.desk turned).handler.waits) (waits-heard known s.desk turned).messages
      ∙ ap (λ ws. made_by turned ++ map withdrawal ws)
      (waits-unanswered known table (past_entries past) (past_entries past) n turned s.desk (made_by turned) (past.took n) rest.closed
      (turned_runs known table false s past jobs n job turned None rest is_out polled) (inr polled.leaves))

  pub withdraws-nothing : AtRest table true s past jobs → (cancelled_course s turned).sends ≡ made_by turned
  withdraws-nothing rest =
      ap (λ ms. map message ms ++ map withdrawal (hear_waits s.desk turned).handler.waits) (waits-heard known s.desk turned).messages
      ∙ ap (λ ws. made_by turned ++ map withdrawal ws)
      (ready-hears_all known s.desk turned
      (closed-ready table true (past_entries past) (past_entries past) n turned s.desk (made_by turned) (past.took n)
      (turned_runs known table true s past jobs n job turned None rest is_out polled) rest.closed (inr polled.leaves)))
      ∙ append-nil (made_by turned)
