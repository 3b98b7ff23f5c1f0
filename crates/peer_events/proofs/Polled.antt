-- Each turn is one poll, and no other event is.
use Rattle.std.proofs.Common.{◌≡◌, ◌≢◌, ℕ, ◌+◌, ◌-◌, ◌<◌, ◌≤◌, List, [], ◌∷◌, ◌++◌, length, map, drop, set, max, ltb, Bool, true, false, cond, Option, Some, None, inl, inr, refl, sym, ap, subst, ◌∙◌, arith}
use Rattle.std.proofs.Math.ListN.{drop_of_length-le}
use Rattle.std.proofs.lemmas.Bool.{ltb-false}
use Rattle.std.proofs.lemmas.List.{length-append, length-map, length-set}
use Rattle.std.proofs.lemmas.List.Sums.{sum_by-cons, count_by-le-length}
use Rattle.rpc_messages.specs.Dues.{Due}
use Rattle.rpc_messages.specs.Entry.{SeenEntry, call, reply, stray, invalid}
use Rattle.rpc_messages.specs.Numbering.{numbers_of, units_numbers, entries_in}
use Rattle.rpc_messages.specs.Unit.{SeenUnit}
use Rattle.method_templates.specs.Steps.{Step}
use Rattle.method_steps.specs.Steps.{MethodTable}
use Rattle.open_numbers.specs.declared.open_call.OpenCall.{OpenCall}
use Rattle.answer_desk.specs.State.{number_at}
use Rattle.open_numbers.specs.OpenCalls.{is_marked_number}
use Rattle.handler_future.specs.declared.outcome.Outcome.{Outcome}
use Rattle.handler_future.specs.declared.outcome.Outcome.TheVariants.{Answer, Failed as NoMemory}
use Rattle.handler_future.specs.State.{HandlerState, IsPoll}
use Rattle.peer_events.specs.declared.stage.Stage.{Stage}
use Rattle.peer_events.specs.declared.stage.Stage.TheVariants.{Gone, Faulty, Idle, Out, Over, Failed}
use Rattle.peer_output.specs.Course.{Sending, message, withdrawal, Course}
use Rattle.peer_output.specs.Events.{with_at, with_units}
use Rattle.peer_output.specs.Items.{Item, sent, answered, sent_by, count_calls}
use Rattle.peer_output.specs.Past.{Past, past_units, past_entries}
use Rattle.peer_output.specs.Work.{Work, nothing, fault, run, call_work}
use Rattle.peer_events.specs.Core.{Core, stage_at, made_by, all_of, unwritten, unwritten_from}
use Rattle.peer_events.specs.Finishing.{over_or_gone, cancelled}
use Rattle.peer_events.specs.Fits.{NumberFits, Fits, AtRest}
use Rattle.peer_events.specs.Hearing.{hear_waits}
use Rattle.peer_events.specs.Passing.{unanswered, PassesNumber}
use Rattle.peer_events.specs.Polls.{to_write, made_out, to_write_from, is_running, count_running, opening_runs, PollsFit, PollsWithin}
use Rattle.peer_events.specs.Stands.{StandsAfter}
use Rattle.peer_events.specs.Taking.{stage_for, stages_for, opened, Takes}
use Rattle.peer_events.specs.Turning.{start, opening_stage, Leaves, returned, returned_to, closed, written_stage, drained}
use Rattle.peer_events.specs.Inner.Known.{Known}
use Rattle.peer_events.proofs.Frames.{frames, frames-append, frames-split, frames-withdrawn, frames-behind, calls-append, calls-sent, calls-answered, calls-added, notices-added}
use Rattle.peer_events.proofs.Hears.{waits-heard}
use Rattle.peer_events.proofs.Opened.{opened-fits}
use Rattle.peer_events.proofs.Passing.{same-units}
use Rattle.peer_events.proofs.Pointwise.{at-here, at-elsewhere, stage-within}
use Rattle.peer_events.proofs.Returned.{IsOut, job-out}
use Rattle.peer_events.proofs.Stood.{leaves-stands, jobs-again}
use Rattle.peer_events.proofs.Leaving.{idle_fits}
use Rattle.peer_events.proofs.Takings.{IsTaken, taken-rests}
use Rattle.peer_events.proofs.Totals.{total, total-append, total-changed, total-most, total-mapped, total-none}

-- ---- the two counts, as sums over numbers

abbrev held : (ℕ → Option HandlerState) → ℕ → Stage → ℕ
held jobs n stage = frames (to_write stage (jobs n))

abbrev live : ℕ → Stage → ℕ
live n stage = cond (is_running stage) 1 0

held-counted : (jobs : ℕ → Option HandlerState) (n : ℕ) (stages : List Stage) → count_calls (to_write_from jobs n stages) ≡ total (held jobs) n stages
held-counted jobs n [] = refl
held-counted jobs n (stage ∷ stages) =
    calls-append (map (sent n) (to_write stage (jobs n))) (to_write_from jobs (n + 1) stages)
    ∙ ap (λ k. k + count_calls (to_write_from jobs (n + 1) stages)) (calls-sent n (to_write stage (jobs n)))
    ∙ ap (λ k. held jobs n stage + k) (held-counted jobs (n + 1) stages)

live-counted : (n : ℕ) (stages : List Stage) → count_running stages ≡ total live n stages
live-counted n [] = refl
live-counted n (stage ∷ stages) = sum_by-cons (λ o. cond (is_running o) 1 0) stage stages ∙ ap (λ k. live n stage + k) (live-counted (n + 1) stages)

due-counted : (n : ℕ) (stages : List Stage) → count_calls (unwritten_from n stages) ≡ total (λ j o. frames (unwritten o)) n stages
due-counted n [] = refl
due-counted n (stage ∷ stages) =
    calls-append (map (sent n) (unwritten stage)) (unwritten_from (n + 1) stages)
    ∙ ap (λ k. k + count_calls (unwritten_from (n + 1) stages)) (calls-sent n (unwritten stage))
    ∙ ap (λ k. frames (unwritten stage) + k) (due-counted (n + 1) stages)

-- ---- the start

start-held : (steps : List Step) → count_calls (to_write_from (λ n. None) 0 (opening_stage steps ∷ [])) ≡ 0
start-held [] = refl
start-held (s ∷ ss) = refl

start-live : (steps : List Step) → count_running (opening_stage steps ∷ []) ≡ opening_runs steps
start-live [] = refl
start-live (s ∷ ss) = refl

pub start-polls : (table : MethodTable) → PollsFit table (start table) (λ n. None) [] 0
start-polls table =
    let none = start-held table.opening in
    let one = start-live table.opening in
    record { last = 0; each = omega arith; one_a_number = omega arith }

-- ---- what is due is written

stage-moved : (jobs : ℕ → Option HandlerState) (j : ℕ) (stage : Stage) → held jobs j stage ≡ frames (unwritten stage) + held jobs j (written_stage stage)
stage-moved jobs j Gone = refl
stage-moved jobs j (Faulty error) = refl
stage-moved jobs j (Idle h so_far) =
    let none : frames (drop (max so_far (length h.messages)) (made_by h)) ≡ 0 =
    ap frames (drop_of_length-le (made_by h) {i = max so_far (length h.messages)} (omega (arith, length-map h.messages message))) in
    omega arith
stage-moved jobs j (Out so_far) = omega arith
stage-moved jobs j (Over h so_far) = omega arith
stage-moved jobs j Failed = refl

stage-running : (stage : Stage) → is_running (written_stage stage) ≡ is_running stage
stage-running Gone = refl
stage-running (Faulty error) = refl
stage-running (Idle h so_far) = refl
stage-running (Out so_far) = refl
stage-running (Over h so_far) = refl
stage-running Failed = refl

running-written : (stages : List Stage) → count_running (map written_stage stages) ≡ count_running stages
running-written [] = refl
running-written (stage ∷ stages) =
    sum_by-cons (λ o. cond (is_running o) 1 0) (written_stage stage) (map written_stage stages)
    ∙ ap (λ b. cond b 1 0 + count_running (map written_stage stages)) (stage-running stage)
    ∙ ap (λ k. cond (is_running stage) 1 0 + k) (running-written stages)
    ∙ sym (sum_by-cons (λ o. cond (is_running o) 1 0) stage stages)

pub drained-polls : (table : MethodTable) (s : Core) (jobs : ℕ → Option HandlerState) (items : List Item) (dues : List Due) (polls : ℕ)
    → PollsFit table s jobs items polls → PollsFit table (drained s) jobs (items ++ unwritten_from 0 s.stages ++ map answered dues) polls
drained-polls table s jobs items dues polls fit =
    let due = unwritten_from 0 s.stages in
    let front = calls-append items due in
    let all = calls-append (items ++ due) (map answered dues) in
    let none = calls-answered dues in
    let due_is = due-counted 0 s.stages in
    let was = held-counted jobs 0 s.stages in
    let now = held-counted jobs 0 (map written_stage s.stages) in
    let moved = total-mapped (held jobs) (λ j o. frames (unwritten o)) written_stage 0 s.stages (stage-moved jobs) in
    let same = running-written s.stages in
    let many = length-map s.stages written_stage in
    record {
      last = fit.last;
      each = omega (arith, fit.each);
      one_a_number = omega (arith, fit.one_a_number);
    }

-- ---- one number changes

module _ (table : MethodTable) (s after : Core) (jobs later : ℕ → Option HandlerState) (n : ℕ) (stage : Stage) (within : n < length s.stages)
    (stages : after.stages ≡ set s.stages n stage) (others : (j : ℕ) → j ≢ n → later j ≡ jobs j) where
  -- it makes so many more calls, and ends or not
  changed-polls : (items : List Item) (polls more ended : ℕ) → held later n stage ≡ held jobs n (stage_at s n) + more
      → live n stage + ended ≤ live n (stage_at s n)
      → PollsFit table s jobs items polls → PollsFit table after later items (polls + more + ended)
  changed-polls items polls more ended makes lives fit =
      let was = held-counted jobs 0 s.stages in
      let now : count_calls (to_write_from later 0 after.stages) ≡ total (held later) 0 (set s.stages n stage) =
      held-counted later 0 after.stages ∙ ap (total (held later) 0) stages in
      let sum = total-changed (held jobs) (held later) 0 n n s.stages stage (omega arith) within
      (λ j o apart. ap (λ job. frames (to_write o job)) (others j apart)) in
      let lived = live-counted 0 s.stages in
      let live_now : count_running after.stages ≡ total live 0 (set s.stages n stage) = live-counted 0 after.stages ∙ ap (total live 0) stages in
      let live_sum = total-changed live live 0 n n s.stages stage (omega arith) within (λ j o apart. refl) in
      let many : length after.stages ≡ length s.stages = ap length stages ∙ length-set s.stages n stage in
      record {
        last = fit.last + ended;
        each = omega (arith, fit.each);
        one_a_number = omega (arith, fit.one_a_number);
      }

-- ---- a handler goes out

gone-idle : (stage : Stage) (h : HandlerState) (so_far : ℕ) → stage ≡ Idle h so_far → stage ≢ Gone
gone-idle stage h so_far is gone = absurd (let idle = sym gone ∙ is in cc)

module _ (known : Known) (table : MethodTable) (s after : Core) (jobs : ℕ → Option HandlerState) (n : ℕ) (job : HandlerState) (leaves : Leaves s n job after) where
  same_made : made_by job ≡ made_by leaves.handler
  same_made = ap made_by leaves.job_is ∙ ap (map message) (waits-heard known s.desk leaves.handler).messages

  pub left-polls : (items : List Item) (polls : ℕ) → PollsFit table s jobs items polls → PollsFit table after (with_at n (Some job) jobs) items polls
  left-polls items polls fit =
      let here : held (with_at n (Some job) jobs) n (Out leaves.so_far) ≡ frames (drop leaves.so_far (made_by leaves.handler)) =
      ap (λ o. frames (made_out o leaves.so_far)) (at-here n (Some job) jobs) ∙ ap (λ l. frames (drop leaves.so_far l)) same_made in
      let was : held jobs n (stage_at s n) ≡ frames (drop leaves.so_far (made_by leaves.handler)) = ap (held jobs n) leaves.stage in
      let lived : live n (stage_at s n) ≡ 1 = ap (live n) leaves.stage in
      let now = changed-polls table s after jobs (with_at n (Some job) jobs) n (Out leaves.so_far)
      (stage-within s.stages n (gone-idle (stage_at s n) leaves.handler leaves.so_far leaves.stage))
      (ap (λ (c : Core). c.stages) leaves.after_is) (λ j apart. at-elsewhere n (Some job) jobs j apart)
      items polls 0 0 (omega arith) (omega arith) fit in
      let same : polls + 0 + 0 ≡ polls = omega arith in
      subst (PollsFit table after (with_at n (Some job) jobs) items) same now

-- ---- it comes back

finished-held : (h : HandlerState) (so_far : ℕ) → frames (to_write (over_or_gone h so_far) None) ≡ frames (drop so_far (made_by h))
finished-held h so_far = by-test (ltb so_far (length h.messages + length h.waits)) refl
  where
    by-test : (b : Bool) → ltb so_far (length h.messages + length h.waits) ≡ b → frames (to_write (cond b (Over h so_far) Gone) None) ≡ frames (drop so_far (made_by h))
    by-test true is = frames-behind so_far (made_by h) h.waits
    by-test false is = sym (ap frames (drop_of_length-le (made_by h) {i = so_far} (let size = length-map h.messages message in let all = ltb-false so_far (length h.messages + length h.waits) is in omega arith)))

finished-live : (h : HandlerState) (so_far : ℕ) → is_running (over_or_gone h so_far) ≡ false
finished-live h so_far = by-test (ltb so_far (length h.messages + length h.waits))
  where
    by-test : (b : Bool) → is_running (cond b (Over h so_far) Gone) ≡ false
    by-test true = refl
    by-test false = refl

gone-out : (stage : Stage) (so_far : ℕ) → stage ≡ Out so_far → stage ≢ Gone
gone-out stage so_far is gone = absurd (let out = sym gone ∙ is in cc)

module _ (known : Known) (table : MethodTable) (is_over : Bool) (s : Core) (past : Past) (jobs : ℕ → Option HandlerState) (n : ℕ) (job turned : HandlerState)
    (rest : AtRest table is_over s past jobs) (is_out : jobs n ≡ Some job) (same_number : turned.number ≡ job.number) (items : List Item) (polls : ℕ)
    (fit : PollsFit table s jobs items polls) where
  abbrev out : IsOut table is_over s past n job
  out = job-out table is_over s past jobs n job rest is_out

  number-is : turned.number ≡ n
  number-is = same_number ∙ out.runs.number

  within-made : out.so_far ≤ length (map message job.messages)
  within-made = let size : length (past.sends n) ≡ length (made_by job) = ap length out.runs.sends_are in omega (arith, out.written.within)

  -- into this stage, with so many calls more
  module _ (k : ℕ) (stage : Stage) (after : Core) (more ended : ℕ) (is : k ≡ n) (stages : after.stages ≡ set s.stages k stage)
      (makes : frames (to_write stage None) ≡ frames (drop out.so_far (made_by job)) + more) (lives : live n stage + ended ≤ 1) where
    into-polls : PollsFit table after (with_at n None jobs) items (polls + more + ended)
    into-polls =
        let here : held (with_at n None jobs) n stage ≡ frames (to_write stage None) = ap (λ o. frames (to_write stage o)) (at-here n None jobs) in
        let was : held jobs n (stage_at s n) ≡ frames (drop out.so_far (made_by job)) =
        ap (held jobs n) out.stage ∙ ap (λ o. frames (made_out o out.so_far)) is_out in
        let lived : live n (stage_at s n) ≡ 1 = ap (live n) out.stage in
        changed-polls table s after jobs (with_at n None jobs) n stage
        (stage-within s.stages n (gone-out (stage_at s n) out.so_far out.stage))
        (stages ∙ ap (λ m. set s.stages m stage) is) (λ j apart. at-elsewhere n None jobs j apart)
        items polls more ended (omega arith) (omega arith) fit

  pending : IsPoll job turned None → frames (drop out.so_far (made_by turned)) ≡ frames (drop out.so_far (made_by job)) + 1
  pending poll = calls-added job.messages turned.messages out.so_far within-made (poll.adds out.no_waits)

  pending-polls : (marked : Bool) → IsPoll job turned None
      → PollsFit table (cond marked (cancelled s turned out.so_far) (record s { stages = set s.stages turned.number (Idle turned out.so_far) })) (with_at n None jobs) items (polls + 1)
  pending-polls true poll =
      let heard = hear_waits s.desk turned in
      let same : made_by heard.handler ≡ made_by turned = ap (map message) (waits-heard known s.desk turned).messages in
      let made : frames (to_write (over_or_gone heard.handler out.so_far) None) ≡ frames (drop out.so_far (made_by job)) + 1 =
      finished-held heard.handler out.so_far ∙ ap (λ l. frames (drop out.so_far l)) same ∙ pending poll in
      let over : live n (over_or_gone heard.handler out.so_far) ≡ 0 = ap (λ b. cond b 1 0) (finished-live heard.handler out.so_far) in
      let one : polls + 1 + 0 ≡ polls + 1 = omega arith in
      subst (PollsFit table (cancelled s turned out.so_far) (with_at n None jobs) items) one
      (into-polls heard.handler.number (over_or_gone heard.handler out.so_far) (cancelled s turned out.so_far) 1 0
      ((waits-heard known s.desk turned).number ∙ number-is) refl made (omega arith))
  pending-polls false poll =
      let one : polls + 1 + 0 ≡ polls + 1 = omega arith in
      subst (PollsFit table (record s { stages = set s.stages turned.number (Idle turned out.so_far) }) (with_at n None jobs) items) one
      (into-polls turned.number (Idle turned out.so_far) (record s { stages = set s.stages turned.number (Idle turned out.so_far) }) 1 0
      number-is refl (pending poll) (omega arith))

  by-outcome : (outcome : Option Outcome) → IsPoll job turned outcome → outcome ≢ Some NoMemory
      → PollsFit table (returned_to s turned outcome (Out out.so_far)) (with_at n None jobs) items (polls + 1)
  by-outcome None poll well = pending-polls (is_marked_number (number_at s.desk turned.number)) poll
  by-outcome (Some (Answer answer)) poll well =
      let made : frames (to_write (over_or_gone turned out.so_far) None) ≡ frames (drop out.so_far (made_by job)) + 0 =
      (let none = finished-held turned out.so_far ∙ notices-added job.messages turned.messages out.so_far within-made (poll.adds out.no_waits) in omega arith) in
      let over : live n (over_or_gone turned out.so_far) ≡ 0 = ap (λ b. cond b 1 0) (finished-live turned out.so_far) in
      let one : polls + 0 + 1 ≡ polls + 1 = omega arith in
      subst (PollsFit table (returned_to s turned (Some (Answer answer)) (Out out.so_far)) (with_at n None jobs) items) one
      (into-polls turned.number (over_or_gone turned out.so_far) (returned_to s turned (Some (Answer answer)) (Out out.so_far)) 0 1
      number-is refl made (omega arith))
  by-outcome (Some NoMemory) poll well = absurd (well refl)

  pub back-polls : (outcome : Option Outcome) → IsPoll job turned outcome → outcome ≢ Some NoMemory
      → PollsFit table (returned s turned outcome) (with_at n None jobs) items (polls + 1)
  back-polls outcome poll well =
      subst (λ stage. PollsFit table (returned_to s turned outcome stage) (with_at n None jobs) items (polls + 1))
      (sym (ap (stage_at s) number-is ∙ out.stage)) (by-outcome outcome poll well)

-- ---- a whole turn

pub turned-polls : (known : Known) (table : MethodTable) (is_over : Bool) (s between : Core) (jobs : ℕ → Option HandlerState) (units : List SeenUnit) (items : List Item) (n : ℕ)
    (job turned : HandlerState) (outcome : Option Outcome) (polls : ℕ) → StandsAfter table is_over s jobs units items → Leaves s n job between → IsPoll job turned outcome
    → outcome ≢ Some NoMemory → PollsFit table s jobs items polls → PollsFit table (returned between turned outcome) jobs items (polls + 1)
turned-polls known table is_over s between jobs units items n job turned outcome polls stands leaves poll well fit =
    let out = leaves-stands known table is_over s jobs units items stands between n job leaves in
    let left = left-polls known table s between jobs n job leaves items polls fit in
    let fits = idle_fits known table is_over s stands.past jobs n leaves.handler leaves.so_far stands.rests leaves.stage in
    subst (λ js. PollsFit table (returned between turned outcome) js items (polls + 1)) (jobs-again n job jobs fits.3)
    (back-polls known table is_over between out.past (with_at n (Some job) jobs) n job turned out.rests (at-here n (Some job) jobs) poll.same_number items polls left
    outcome poll well)

-- ---- the input ends

pub closed-polls : (table : MethodTable) (s : Core) (jobs : ℕ → Option HandlerState) (items : List Item) (polls : ℕ) → PollsFit table s jobs items polls
    → PollsFit table (closed s) jobs items polls
closed-polls table s jobs items polls fit = record { last = fit.last; each = fit.each; one_a_number = fit.one_a_number }

-- ---- a unit is taken

-- what a number that is finished has to write yet
module _ (table : MethodTable) (is_over : Bool) (entries passed : List SeenEntry) (n : ℕ) (desk : Option OpenCall) (job : Option HandlerState) (sends written : List Sending)
    (took : Option Course) where
  finished-sent : (stage : Stage) (c : Course) → took ≡ Some c → NumberFits table is_over entries passed n stage desk job sends written took
      → (frames (to_write stage job) + frames written ≡ frames sends) × (live n stage ≡ 0)
  finished-sent Gone c is fits =
      let all = ap frames fits.2 in
      (omega arith, refl)
  finished-sent (Faulty error) c is fits = absurd (let none = fits.3 in cc)
  finished-sent (Idle h so_far) c is fits = absurd (let none = fits.0.unfinished in cc)
  finished-sent (Out so_far) c is fits = absurd (let none = fits.3.unfinished in cc)
  finished-sent (Over h so_far) c is fits =
      let split = frames-split so_far sends in
      let front = ap frames fits.3 in
      let back : frames (drop so_far (all_of h)) ≡ frames (drop so_far sends) = ap (λ l. frames (drop so_far l)) (sym fits.2.sends_are) in
      (omega arith, refl)
  finished-sent Failed c is fits = absurd (let none = fits.1 in cc)

  idle-sent : (h : HandlerState) (so_far : ℕ) → NumberFits table is_over entries passed n (Idle h so_far) desk job sends written took
      → frames (drop so_far (made_by h)) + frames written ≡ frames sends
  idle-sent h so_far fits =
      let split = frames-split so_far sends in
      let front = ap frames fits.4 in
      let back : frames (drop so_far (made_by h)) ≡ frames (drop so_far sends) = ap (λ l. frames (drop so_far l)) (sym fits.0.sends_are) in
      omega arith

-- new numbers have made nothing
fresh-one : (jobs : ℕ → Option HandlerState) (m n : ℕ) (w : Work) → held jobs m (stage_for n w) ≡ 0
fresh-one jobs m n nothing = refl
fresh-one jobs m n (fault error) = refl
fresh-one jobs m n (run program) = refl

fresh-held : (table : MethodTable) (jobs : ℕ → Option HandlerState) (m n : ℕ) (es : List SeenEntry) → total (held jobs) m (stages_for table n es) ≡ 0
fresh-held table jobs m n [] = refl
fresh-held table jobs m n (call c ∷ es) =
    let here = fresh-one jobs m n (call_work table c) in
    let rest = fresh-held table jobs (m + 1) (n + numbers_of (call c)) es in
    omega arith
fresh-held table jobs m n (reply k t r ∷ es) = fresh-held table jobs m (n + numbers_of (reply k t r)) es
fresh-held table jobs m n (stray ∷ es) = fresh-held table jobs m (n + numbers_of stray) es
fresh-held table jobs m n (invalid ∷ es) = fresh-held table jobs m (n + numbers_of invalid) es

module _ (known : Known) (table : MethodTable) (s after : Core) (past : Past) (unit : SeenUnit) (jobs : ℕ → Option HandlerState)
    (rest : AtRest table false s past jobs) (takes : Takes table s unit after) where
  abbrev open_core : Core
  open_core = opened table s unit

  abbrev came : Past
  came = with_units past (unit ∷ [])

  taken : IsTaken table s after past unit jobs
  taken = taken-rests known table s after past unit jobs rest takes

  open_fits : Fits table false (past_entries past) open_core came jobs
  open_fits = opened-fits known table s past jobs rest unit

  module _ (k : ℕ) (given : k < length open_core.stages) where
    fits-before : NumberFits table false (past_entries came) (past_entries past) k (stage_at open_core k) (number_at open_core.desk k) (jobs k) (came.sends k) (sent_by k came.items) (came.took k)
    fits-before = open_fits.each k (let many = open_fits.stages in omega arith)

    abbrev later : Past
    later = taken.later

    fits-after : NumberFits table false (past_entries later) (past_entries later) k (stage_at after k) (number_at after.desk k) (jobs k) (later.sends k) (sent_by k later.items) (later.took k)
    fits-after =
        let many = open_fits.stages in
        let same : units_numbers (past_units later) ≡ units_numbers (past_units came) = ap units_numbers (same-units open_core after came later taken.passes) in
        taken.rest.each k (omega arith)

    finished-now : (c : Course) → later.took k ≡ Some c → (held jobs k (stage_at after k) + frames (sent_by k later.items) ≡ frames (later.sends k)) × (live k (stage_at after k) ≡ 0)
    finished-now c is =
        finished-sent table false (past_entries later) (past_entries later) k (number_at after.desk k) (jobs k) (later.sends k) (sent_by k later.items) (later.took k)
        (stage_at after k) c is fits-after

    same_written : frames (sent_by k later.items) ≡ frames (sent_by k came.items)
    same_written = ap (λ l. frames (sent_by k l)) taken.passes.items

    number-kept : PassesNumber open_core after came later k
        → (held jobs k (stage_at after k) ≡ held jobs k (stage_at open_core k)) × (live k (stage_at after k) ≤ live k (stage_at open_core k))
    number-kept (inl stays) =
        let same = ap (live k) stays.stage in
        (ap (held jobs k) stays.stage, omega arith)
    number-kept (inr (inl faulty)) =
        let now = finished-now _ faulty.ends.took in
        let nothing_sent : frames (later.sends k) ≡ 0 = ap frames faulty.ends.sends in
        let was : held jobs k (stage_at open_core k) ≡ 0 = ap (held jobs k) faulty.was in
        (omega (arith, now.0), omega (arith, now.1))
    number-kept (inr (inr cancel)) =
        let now = finished-now _ cancel.ends.took in
        let turns = unanswered cancel.passed k cancel.handler.waits in
        let sends : frames (later.sends k) ≡ frames (came.sends k ++ map withdrawal turns) = ap frames cancel.ends.sends in
        let sum = frames-append (came.sends k) (map withdrawal turns) in
        let none = frames-withdrawn turns in
        let idle : held jobs k (stage_at open_core k) ≡ frames (drop cancel.so_far (made_by cancel.handler)) = ap (held jobs k) cancel.was in
        let before = idle-sent table false (past_entries came) (past_entries past) k (number_at open_core.desk k) (jobs k) (came.sends k) (sent_by k came.items) (came.took k)
        cancel.handler cancel.so_far
        (subst (λ o. NumberFits table false (past_entries came) (past_entries past) k o (number_at open_core.desk k) (jobs k) (came.sends k) (sent_by k came.items) (came.took k)) cancel.was fits-before) in
        let written = same_written in
        (omega (arith, now.0), omega (arith, now.1))

  same_many : length after.stages ≡ length open_core.stages
  same_many =
      let many = open_fits.stages in
      let now = taken.rest.stages in
      let same : units_numbers (past_units taken.later) ≡ units_numbers (past_units came) = ap units_numbers (same-units open_core after came taken.later taken.passes) in
      omega arith

  kept-at : (k m : ℕ) → m ≡ 0 + k → k < length open_core.stages
      → (held jobs m (stage_at after k) ≡ held jobs m (stage_at open_core k)) × (live m (stage_at after k) ≤ live m (stage_at open_core k))
  kept-at k m is given =
      let same : k ≡ m = omega arith in
      subst (λ j. (held jobs j (stage_at after k) ≡ held jobs j (stage_at open_core k)) × (live j (stage_at after k) ≤ live j (stage_at open_core k))) same
      (number-kept k given (taken.passes.numbers k))

  pub taken-polls : (items : List Item) (polls : ℕ) → PollsFit table s jobs items polls → PollsFit table after jobs items polls
  taken-polls items polls fit =
      let new = stages_for table (length s.stages) (entries_in unit) in
      let up = total-most (held jobs) (held jobs) 0 open_core.stages after.stages (sym same_many) (λ k m is given. let kept = (kept-at k m is given).0 in omega arith) in
      let down = total-most (held jobs) (held jobs) 0 after.stages open_core.stages same_many
      (λ k m is given. let kept = (kept-at k m is (omega (arith, same_many))).0 in omega arith) in
      let fewer = total-most live live 0 after.stages open_core.stages same_many (λ k m is given. (kept-at k m is (omega (arith, same_many))).1) in
      let split = total-append (held jobs) 0 (length s.stages) s.stages new (omega arith) in
      let fresh = fresh-held table jobs (length s.stages) (length s.stages) (entries_in unit) in
      let live_split = total-append live 0 (length s.stages) s.stages new (omega arith) in
      let live_new = live-counted (length s.stages) new in
      let live_most = count_by-le-length is_running new in
      let was = held-counted jobs 0 s.stages in
      let now = held-counted jobs 0 after.stages in
      let lived = live-counted 0 s.stages in
      let lives = live-counted 0 after.stages in
      let many = length-append s.stages new in
      let same = same_many in
      let some = rest.stages in
      record {
        last = fit.last;
        each = omega (arith, fit.each);
        one_a_number = omega (arith, fit.one_a_number);
      }

-- ---- the end

gone-held : (jobs : ℕ → Option HandlerState) (m : ℕ) (stage : Stage) → stage ≡ Gone → held jobs m stage ≡ 0
gone-held jobs m stage is = ap (held jobs m) is

pub done-polls : (table : MethodTable) (s : Core) (jobs : ℕ → Option HandlerState) (items : List Item) (polls : ℕ) → PollsFit table s jobs items polls
    → ((n : ℕ) → stage_at s n ≡ Gone) → PollsWithin table (length s.stages - 1) (count_calls items) polls
done-polls table s jobs items polls fit gone =
    let none = total-none (held jobs) 0 s.stages (λ k m. gone-held jobs m (stage_at s k) (gone k)) in
    let all = held-counted jobs 0 s.stages in
    record {
      least = omega (arith, fit.each);
      most = omega (arith, fit.each, fit.one_a_number);
    }
