-- What fits but for one number, and what fits again once that one does.
use Rattle.std.proofs.Common.{◌≡◌, ◌≢◌, ℕ, ◌+◌, ◌==◌, ◌<◌, ◌≤◌, List, length, Bool, true, false, Option, None, refl, sym, subst, ◌∙◌, arith}
use Rattle.std.specs.Cmp.{unsigned_Decides}
use Rattle.rpc_messages.specs.Entry.{SeenEntry}
use Rattle.rpc_messages.specs.Numbering.{units_numbers}
use Rattle.method_steps.specs.Steps.{MethodTable}
use Rattle.answer_desk.specs.State.{number_at}
use Rattle.open_numbers.specs.declared.open_call.OpenCall.{OpenCall}
use Rattle.handler_future.specs.State.{HandlerState}
use Rattle.peer_events.specs.declared.stage.Stage.{Stage}
use Rattle.peer_output.specs.Course.{Sending, Course}
use Rattle.peer_output.specs.Cancelled.{Begins}
use Rattle.peer_output.specs.Items.{sent_by}
use Rattle.peer_output.specs.Left.{units_left}
use Rattle.peer_output.specs.Past.{Past, past_units, past_entries, IsPast}
use Rattle.peer_events.specs.Core.{Core, stage_at}
use Rattle.peer_events.specs.Fits.{NumberFits, Fits}

-- ---- each number is this one or another

each_of_if : (P : ℕ → Type 0) (n k : ℕ) (hit : Bool) → (n == k) ≡ hit → P n → (k ≢ n → P k) → P k
each_of_if P n k true is here other = subst P ((unsigned_Decides n k).0 is) here
each_of_if P n k false is here other = other (λ same. absurd (let hit : (n == k) ≡ true = (unsigned_Decides n k).1 (sym same) in cc))

pub each-number : (P : ℕ → Type 0) (n : ℕ) → P n → ((k : ℕ) → k ≢ n → P k) → (k : ℕ) → P k
each-number P n here other k = each_of_if P n k (n == k) refl here (other k)

-- ---- but for one number

-- how a number fits
abbrev pub FitsAt : MethodTable → Bool → List SeenEntry → Core → Past → (ℕ → Option HandlerState) → ℕ → Type 0
FitsAt table is_over passed s past jobs n =
    NumberFits table is_over (past_entries past) passed n (stage_at s n) (number_at s.desk n) (jobs n) (past.sends n) (sent_by n past.items) (past.took n)

-- what fits, where each number has a place of its own in the stream: as a cancel goes on, those that it has yet to reach stand before it
pub record FitsAlong (table : MethodTable) (is_over : Bool) (passed : ℕ → List SeenEntry) (s : Core) (past : Past) (jobs : ℕ → Option HandlerState) :
    Type 0 where
  pub past_is : IsPast table is_over past
  pub closed : s.desk.is_closed ≡ is_over
  pub units : s.desk.units ≡ units_left past.took (1 + units_numbers past.released) past.left
  pub numbers : length s.desk.numbers ≡ 1 + units_numbers (past_units past)
  pub stages : length s.stages ≡ 1 + units_numbers (past_units past)
  pub passed_begin : (n : ℕ) → Begins (passed n) (past_entries past)
  pub each : (n : ℕ) → n ≤ units_numbers (past_units past) → FitsAt table is_over (passed n) s past jobs n
  pub no_more_jobs : (n : ℕ) → units_numbers (past_units past) < n → jobs n ≡ None

pub along-fits : (table : MethodTable) (is_over : Bool) (passed : List SeenEntry) (s : Core) (past : Past) (jobs : ℕ → Option HandlerState)
    → FitsAlong table is_over (λ n. passed) s past jobs → Fits table is_over passed s past jobs
along-fits table is_over passed s past jobs along = record {
  past_is = along.past_is;
  closed = along.closed;
  units = along.units;
  numbers = along.numbers;
  stages = along.stages;
  passed_begin = along.passed_begin 0;
  each = along.each;
  no_more_jobs = along.no_more_jobs;
}

-- the same places
pub along-same : (table : MethodTable) (is_over : Bool) (passed places : ℕ → List SeenEntry) (s : Core) (past : Past) (jobs : ℕ → Option HandlerState)
    → ((n : ℕ) → places n ≡ passed n) → FitsAlong table is_over passed s past jobs → FitsAlong table is_over places s past jobs
along-same table is_over passed places s past jobs same along = record {
  past_is = along.past_is;
  closed = along.closed;
  units = along.units;
  numbers = along.numbers;
  stages = along.stages;
  passed_begin = λ n. subst (λ l. Begins l (past_entries past)) (sym (same n)) (along.passed_begin n);
  each = λ n given. subst (λ l. FitsAt table is_over l s past jobs n) (sym (same n)) (along.each n given);
  no_more_jobs = along.no_more_jobs;
}

pub record Beside (table : MethodTable) (is_over : Bool) (passed : ℕ → List SeenEntry) (s : Core) (past : Past) (jobs : ℕ → Option HandlerState) (n : ℕ) :
    Type 0 where
  pub past_is : IsPast table is_over past
  pub closed : s.desk.is_closed ≡ is_over
  pub units : s.desk.units ≡ units_left past.took (1 + units_numbers past.released) past.left
  pub numbers : length s.desk.numbers ≡ 1 + units_numbers (past_units past)
  pub stages : length s.stages ≡ 1 + units_numbers (past_units past)
  pub passed_begin : (k : ℕ) → Begins (passed k) (past_entries past)
  pub given : n ≤ units_numbers (past_units past)
  pub others : (k : ℕ) → k ≤ units_numbers (past_units past) → k ≢ n → FitsAt table is_over (passed k) s past jobs k
  pub no_more_jobs : (k : ℕ) → units_numbers (past_units past) < k → jobs k ≡ None

pub along-beside : (table : MethodTable) (is_over : Bool) (passed : ℕ → List SeenEntry) (s : Core) (past : Past) (jobs : ℕ → Option HandlerState) (n : ℕ)
    → FitsAlong table is_over passed s past jobs → n ≤ units_numbers (past_units past) → Beside table is_over passed s past jobs n
along-beside table is_over passed s past jobs n along given = record {
  past_is = along.past_is;
  closed = along.closed;
  units = along.units;
  numbers = along.numbers;
  stages = along.stages;
  passed_begin = along.passed_begin;
  given = given;
  others = λ k known apart. along.each k known;
  no_more_jobs = along.no_more_jobs;
}

pub fits-beside : (table : MethodTable) (is_over : Bool) (passed : List SeenEntry) (s : Core) (past : Past) (jobs : ℕ → Option HandlerState) (n : ℕ)
    → Fits table is_over passed s past jobs → n ≤ units_numbers (past_units past) → Beside table is_over (λ k. passed) s past jobs n
fits-beside table is_over passed s past jobs n fits given = record {
  past_is = fits.past_is;
  closed = fits.closed;
  units = fits.units;
  numbers = fits.numbers;
  stages = fits.stages;
  passed_begin = λ k. fits.passed_begin;
  given = given;
  others = λ k known apart. fits.each k known;
  no_more_jobs = fits.no_more_jobs;
}

pub beside-along : (table : MethodTable) (is_over : Bool) (passed : ℕ → List SeenEntry) (s : Core) (past : Past) (jobs : ℕ → Option HandlerState) (n : ℕ)
    → Beside table is_over passed s past jobs n → FitsAt table is_over (passed n) s past jobs n → FitsAlong table is_over passed s past jobs
beside-along table is_over passed s past jobs n beside here = record {
  past_is = beside.past_is;
  closed = beside.closed;
  units = beside.units;
  numbers = beside.numbers;
  stages = beside.stages;
  passed_begin = beside.passed_begin;
  each = λ k known. each_of_if (λ m. FitsAt table is_over (passed m) s past jobs m) n k (n == k) refl here (beside.others k known);
  no_more_jobs = beside.no_more_jobs;
}

pub beside-fits : (table : MethodTable) (is_over : Bool) (passed : List SeenEntry) (s : Core) (past : Past) (jobs : ℕ → Option HandlerState) (n : ℕ)
    → Beside table is_over (λ k. passed) s past jobs n → FitsAt table is_over passed s past jobs n → Fits table is_over passed s past jobs
beside-fits table is_over passed s past jobs n beside here =
    along-fits table is_over passed s past jobs (beside-along table is_over (λ k. passed) s past jobs n beside here)

-- the other numbers have the same places
pub beside-same : (table : MethodTable) (is_over : Bool) (passed places : ℕ → List SeenEntry) (s : Core) (past : Past) (jobs : ℕ → Option HandlerState) (n : ℕ)
    → ((k : ℕ) → Begins (places k) (past_entries past)) → ((k : ℕ) → k ≢ n → places k ≡ passed k)
    → Beside table is_over passed s past jobs n → Beside table is_over places s past jobs n
beside-same table is_over passed places s past jobs n begin same beside = record {
  past_is = beside.past_is;
  closed = beside.closed;
  units = beside.units;
  numbers = beside.numbers;
  stages = beside.stages;
  passed_begin = begin;
  given = beside.given;
  others = λ k known apart. subst (λ l. FitsAt table is_over l s past jobs k) (sym (same k apart)) (beside.others k known apart);
  no_more_jobs = beside.no_more_jobs;
}

-- ---- a change at one number leaves the others

pub same-fits : (table : MethodTable) (is_over : Bool) (entries passed : List SeenEntry) (n : ℕ) (stage stage_now : Stage) (desk desk_now : Option OpenCall)
    (job job_now : Option HandlerState) (sends sends_now : List Sending) (written written_now : List Sending) (took took_now : Option Course)
    → stage_now ≡ stage → desk_now ≡ desk → job_now ≡ job → sends_now ≡ sends → written_now ≡ written → took_now ≡ took
    → NumberFits table is_over entries passed n stage desk job sends written took
    → NumberFits table is_over entries passed n stage_now desk_now job_now sends_now written_now took_now
same-fits table is_over entries passed n stage stage_now desk desk_now job job_now sends sends_now written written_now took took_now p q r s t u h =
    subst (λ x. NumberFits table is_over entries passed n x desk_now job_now sends_now written_now took_now) (sym p)
    (subst (λ x. NumberFits table is_over entries passed n stage x job_now sends_now written_now took_now) (sym q)
    (subst (λ x. NumberFits table is_over entries passed n stage desk x sends_now written_now took_now) (sym r)
    (subst (λ x. NumberFits table is_over entries passed n stage desk job x written_now took_now) (sym s)
    (subst (λ x. NumberFits table is_over entries passed n stage desk job sends x took_now) (sym t)
    (subst (λ x. NumberFits table is_over entries passed n stage desk job sends written x) (sym u) h)))))

-- what each number sends and took may change, and nothing else of a past
abbrev pub with_numbers : Past → (ℕ → List Sending) → (ℕ → Option Course) → Past
with_numbers past sends took = record past { sends = sends; took = took }

pub beside-changed : (table : MethodTable) (is_over : Bool) (passed : ℕ → List SeenEntry) (s after : Core) (past : Past) (sends : ℕ → List Sending)
    (took : ℕ → Option Course) (jobs jobs_now : ℕ → Option HandlerState) (n : ℕ) → Beside table is_over passed s past jobs n
    → IsPast table is_over (with_numbers past sends took)
    → after.desk.is_closed ≡ s.desk.is_closed
    → after.desk.units ≡ units_left took (1 + units_numbers past.released) past.left
    → length after.desk.numbers ≡ length s.desk.numbers
    → length after.stages ≡ length s.stages
    → ((k : ℕ) → k ≢ n → stage_at after k ≡ stage_at s k)
    → ((k : ℕ) → k ≢ n → number_at after.desk k ≡ number_at s.desk k)
    → ((k : ℕ) → k ≢ n → jobs_now k ≡ jobs k)
    → ((k : ℕ) → k ≢ n → sends k ≡ past.sends k)
    → ((k : ℕ) → k ≢ n → took k ≡ past.took k)
    → Beside table is_over passed after (with_numbers past sends took) jobs_now n
beside-changed table is_over passed s after past sends took jobs jobs_now n beside past_is closed units numbers stages stage desk job send take = record {
  past_is = past_is;
  closed = closed ∙ beside.closed;
  units = units;
  numbers = numbers ∙ beside.numbers;
  stages = stages ∙ beside.stages;
  passed_begin = beside.passed_begin;
  given = beside.given;
  others = λ k known apart. same-fits table is_over (past_entries past) (passed k) k (stage_at s k) (stage_at after k) (number_at s.desk k) (number_at after.desk k)
      (jobs k) (jobs_now k) (past.sends k) (sends k) (sent_by k past.items) (sent_by k past.items) (past.took k) (took k)
      (stage k apart) (desk k apart) (job k apart) (send k apart) refl (take k apart) (beside.others k known apart);
  no_more_jobs = λ k more. job k (λ same. absurd (let given = beside.given in omega arith)) ∙ beside.no_more_jobs k more;
}
