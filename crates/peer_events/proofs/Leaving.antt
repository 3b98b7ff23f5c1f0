-- The input ends, and a handler goes out.
use Rattle.std.proofs.Common.{◌≡◌, ◌≢◌, ℕ, ◌<◌, ◌≤◌, List, [], length, set, Bool, true, false, Option, Some, refl, sym, ap, subst, ◌∙◌, arith}
use Rattle.std.proofs.lemmas.List.{get_or-set_same, get_or-set_other, length-set}
use Rattle.rpc_messages.specs.Entry.{SeenEntry}
use Rattle.rpc_messages.specs.Numbering.{units_numbers}
use Rattle.method_steps.specs.Steps.{MethodTable}
use Rattle.open_numbers.specs.declared.open_call.OpenCall.{OpenCall}
use Rattle.answer_desk.specs.State.{number_at}
use Rattle.handler_future.specs.State.{HandlerState}
use Rattle.peer_events.specs.declared.stage.Stage.{Stage}
use Rattle.peer_events.specs.declared.stage.Stage.TheVariants.{Gone, Faulty, Idle, Out, Over, Failed}
use Rattle.peer_output.specs.Course.{Sending, Course}
use Rattle.peer_output.specs.Events.{with_at}
use Rattle.peer_output.specs.Items.{sent_by}
use Rattle.peer_output.specs.Past.{Past, past_units, past_entries}
use Rattle.peer_events.specs.Core.{Core, stage_at}
use Rattle.peer_events.specs.Fits.{RunFits, NumberFits, Fits, AtRest}
use Rattle.peer_events.specs.Hearing.{hear_waits}
use Rattle.peer_events.specs.Inner.Known.{Known}
use Rattle.peer_events.specs.Turning.{Leaves, closed}
use Rattle.peer_events.proofs.Beside.{fits-beside, beside-fits, same-fits, beside-changed}
use Rattle.peer_events.proofs.Hears.{waits-fit, HasHeard, waits-heard}
use Rattle.peer_events.proofs.Pointwise.{at-here, at-elsewhere, stage-within}
use Rattle.peer_events.proofs.Streams.{begins-itself}
use Rattle.peer_events.proofs.Waits.{ready-hears_all}

-- ---- the input ends

module _ (known : Known) (table : MethodTable) where
  run-over : (entries passed : List SeenEntry) (n : ℕ) (h : HandlerState) (desk : Option OpenCall) (sends : List Sending) (took : Option Course)
      → RunFits table false entries passed n h desk sends took → RunFits table true entries passed n h desk sends took
  run-over entries passed n h desk sends took fits = record {
    number = fits.number;
    works = fits.works;
    heard = known.heard_stays true passed passed n h.heard (begins-itself passed) fits.heard;
    sends_are = fits.sends_are;
    unfinished = fits.unfinished;
    kept = fits.kept;
    is_open = fits.is_open;
    fits = fits.fits;
  }

  number-over : (entries passed : List SeenEntry) (n : ℕ) (stage : Stage) (desk : Option OpenCall) (job : Option HandlerState) (sends written : List Sending) (took : Option Course)
      → NumberFits table false entries passed n stage desk job sends written took → NumberFits table true entries passed n stage desk job sends written took
  number-over entries passed n Gone desk job sends written took fits = fits
  number-over entries passed n (Faulty error) desk job sends written took fits = fits
  number-over entries passed n (Idle h so_far) desk job sends written took fits =
      (run-over entries passed n h desk sends took fits.0, fits.1, fits.2, fits.3, fits.4, fits.5)
  number-over entries passed n (Out so_far) desk job sends written took fits =
      (fits.0, fits.1, fits.2, run-over entries passed n fits.0 desk sends took fits.3, fits.4, fits.5)
  number-over entries passed n (Over h so_far) desk job sends written took fits = fits
  number-over entries passed n Failed desk job sends written took fits = fits

  pub closed-rest : (s : Core) (past : Past) (jobs : ℕ → Option HandlerState) → AtRest table false s past jobs → AtRest table true (closed s) past jobs
  closed-rest s past jobs rest =
      record {
        past_is = known.input_ends table past rest.past_is;
        closed = refl;
        units = rest.units;
        numbers = rest.numbers;
        stages = rest.stages;
        passed_begin = rest.passed_begin;
        each = λ n given. number-over (past_entries past) (past_entries past) n (stage_at s n) (number_at s.desk n) (jobs n) (past.sends n) (sent_by n past.items) (past.took n)
            (rest.each n given);
        no_more_jobs = rest.no_more_jobs;
      }

-- ---- a number with a stage was given

pub staged-given : (table : MethodTable) (is_over : Bool) (passed : List SeenEntry) (s : Core) (past : Past) (jobs : ℕ → Option HandlerState) (n : ℕ)
    → Fits table is_over passed s past jobs → stage_at s n ≢ Gone → n ≤ units_numbers (past_units past)
staged-given table is_over passed s past jobs n fits some =
    let stages = fits.stages in
    let within = stage-within s.stages n some in
    omega arith

-- ---- a handler goes out

module _ (known : Known) (table : MethodTable) (is_over : Bool) (s : Core) (past : Past) (jobs : ℕ → Option HandlerState) (n : ℕ) (h : HandlerState) (so_far : ℕ)
    (rest : AtRest table is_over s past jobs) (stage : stage_at s n ≡ Idle h so_far) where
  idle_given : n ≤ units_numbers (past_units past)
  idle_given = staged-given table is_over (past_entries past) s past jobs n rest (λ gone. absurd (cc))

  pub idle_fits : NumberFits table is_over (past_entries past) (past_entries past) n (Idle h so_far) (number_at s.desk n) (jobs n) (past.sends n) (sent_by n past.items) (past.took n)
  idle_fits = subst (λ st. NumberFits table is_over (past_entries past) (past_entries past) n st (number_at s.desk n) (jobs n) (past.sends n) (sent_by n past.items) (past.took n))
      stage (rest.each n idle_given)

  left : Core
  left = record { desk = (hear_waits s.desk h).desk; stages = set s.stages n (Out so_far) }

  job_heard : HasHeard n s.desk h (hear_waits s.desk h)
  job_heard = subst (λ m. HasHeard m s.desk h (hear_waits s.desk h)) idle_fits.0.number (waits-heard known s.desk h)

  pub handler-leaves : (job : HandlerState) → job ≡ (hear_waits s.desk h).handler → job.waits ≡ []
      → AtRest table is_over (record { desk = (hear_waits s.desk h).desk; stages = set s.stages n (Out so_far) }) past (with_at n (Some job) jobs)
  unfolding left
  handler-leaves job is none =
      let stages = rest.stages in
      let given = idle_given in
      let within : n < length s.stages = omega arith in
      beside-fits table is_over (past_entries past) left past (with_at n (Some job) jobs) n
      (beside-changed table is_over (λ k. past_entries past) s left past past.sends past.took jobs (with_at n (Some job) jobs) n
      (fits-beside table is_over (past_entries past) s past jobs n rest idle_given) rest.past_is
      job_heard.closed (job_heard.units ∙ rest.units) job_heard.numbers (length-set s.stages n (Out so_far))
      (λ k apart. get_or-set_other s.stages n k (Out so_far) Gone apart) job_heard.others (λ k apart. at-elsewhere n (Some job) jobs k apart) (λ k apart. refl) (λ k apart. refl))
      (same-fits table is_over (past_entries past) (past_entries past) n (Out so_far) (stage_at left n) (number_at left.desk n) (number_at left.desk n) (Some job) (with_at n (Some job) jobs n)
      (past.sends n) (past.sends n) (sent_by n past.items) (sent_by n past.items) (past.took n) (past.took n)
      (get_or-set_same s.stages n (Out so_far) Gone within) refl (at-here n (Some job) jobs) refl refl refl (
        job,
        refl,
        none,
        subst (λ g. RunFits table is_over (past_entries past) (past_entries past) n g (number_at left.desk n) (past.sends n) (past.took n)) (sym is)
            (waits-fit known table is_over (past_entries past) (past_entries past) (past.sends n) (past.took n) n s.desk h rest.closed idle_fits.0),
        idle_fits.4,
        idle_fits.5,
      ))

pub leaves-rest : (known : Known) (table : MethodTable) (is_over : Bool) (s after : Core) (past : Past) (jobs : ℕ → Option HandlerState) (n : ℕ) (job : HandlerState)
    → AtRest table is_over s past jobs → Leaves s n job after → AtRest table is_over after past (with_at n (Some job) jobs) × (job.waits ≡ [])
leaves-rest known table is_over s after past jobs n job rest leaves =
    let none : job.waits ≡ [] = ap (λ (g : HandlerState). g.waits) leaves.job_is ∙ ready-hears_all known s.desk leaves.handler leaves.is_ready in (
      subst (λ c. AtRest table is_over c past (with_at n (Some job) jobs)) (sym leaves.after_is)
          (handler-leaves known table is_over s past jobs n leaves.handler leaves.so_far rest leaves.stage job leaves.job_is none),
      none,
    )
