-- A number is finished, with an answer or as cancelled.
use Rattle.std.proofs.Common.{◌≡◌, ◌≢◌, ℕ, ◌+◌, ◌<◌, ◌≤◌, List, ◌++◌, length, map, take, get_or, set, Bool, true, false, cond, not, Option, Some, None, nat_lt, inl, refl, sym, ap, subst, ◌∙◌, arith, length-append}
use Rattle.std.proofs.lemmas.Bool.{ltb-false}
use Rattle.std.proofs.lemmas.List.{get_or-set_same, get_or-set_other, length-set, length-map, take-append-le, take_all}
use Rattle.rpc_messages.specs.Entry.{SeenEntry}
use Rattle.rpc_messages.specs.Numbering.{units_numbers}
use Rattle.rpc_messages.specs.declared.reply.Reply.TheVariants.{Standard as Fixed}
use Rattle.message_ids.specs.declared.standard.Standard.TheVariants.{Cancelled}
use Rattle.method_steps.specs.Steps.{MethodTable}
use Rattle.answer_desk.specs.State.{number_at, with_end}
use Rattle.open_numbers.specs.OpenCalls.{is_marked_number}
use Rattle.answer_desk.specs.Waiting.{unit_answered}
use Rattle.handler_future.specs.Front.{is_heard}
use Rattle.handler_future.specs.State.{HandlerState}
use Rattle.peer_events.specs.declared.stage.Stage.TheVariants.{Gone, Over}
use Rattle.peer_output.specs.Cancelled.{Begins, is_cancelled}
use Rattle.peer_output.specs.Course.{Sending, message, withdrawal, Course}
use Rattle.peer_output.specs.Events.{with_at, with_course}
use Rattle.peer_output.specs.Items.{sent_by}
use Rattle.peer_output.specs.Later.{IsFinished, IsUnderWay}
use Rattle.peer_output.specs.Past.{Past, past_entries, NumberStands}
use Rattle.peer_events.specs.Core.{Core, stage_at, all_of}
use Rattle.peer_events.specs.Finishing.{over_or_gone, finished, cancelled, cancelled_course}
use Rattle.peer_events.specs.Fits.{NumberFits, RunFits}
use Rattle.peer_events.specs.Hearing.{hear_waits}
use Rattle.peer_events.specs.Inner.Known.{Known}
use Rattle.peer_events.proofs.Beside.{FitsAt, FitsAlong, Beside, beside-along, same-fits, beside-changed}
use Rattle.peer_events.proofs.Hears.{WaitsForLast, waits-fit, HasHeard, waits-heard, turns-last}
use Rattle.peer_events.proofs.Pointwise.{at-here, at-elsewhere}

-- ---- what was written of a number that is finished

-- so many of its sendings are written
pub record IsWritten (past : Past) (n so_far : ℕ) : Type 0 where
  pub written : sent_by n past.items ≡ take so_far (past.sends n)
  pub within : so_far ≤ length (past.sends n)

length-all : (h : HandlerState) → length (all_of h) ≡ length h.messages + length h.waits
length-all h = omega (arith, length-append (map message h.messages) (map withdrawal h.waits), length-map h.messages message, length-map h.waits withdrawal)

over_if : (table : MethodTable) (is_over : Bool) (entries passed : List SeenEntry) (n : ℕ) (h : HandlerState) (so_far : ℕ) (c : Course) (written : List Sending)
    → c.sends ≡ all_of h → written ≡ take so_far c.sends → so_far ≤ length c.sends → (b : Bool) → nat_lt so_far (length h.messages + length h.waits) ≡ b
    → NumberFits table is_over entries passed n (cond b (Over h so_far) Gone) None None c.sends written (Some c)
over_if table is_over entries passed n h so_far c written sends is within true more =
    (refl, refl, record { course = c; took_is = refl; sends_are = sends }, is, within)
over_if table is_over entries passed n h so_far c written sends is within false all =
    (refl, refl, is ∙ take_all so_far c.sends (all_written all), inl (c, refl))
  where
    all_written : nat_lt so_far (length h.messages + length h.waits) ≡ false → length c.sends ≤ so_far
    all_written all = omega (arith, ap length sends, length-all h, ltb-false so_far (length h.messages + length h.waits) all)

-- ---- finished with an answer

module _ (known : Known) (table : MethodTable) (is_over : Bool) (passed : ℕ → List SeenEntry) (s : Core) (past : Past) (jobs jobs_now : ℕ → Option HandlerState)
    (n : ℕ) (h : HandlerState) (so_far : ℕ) (c : Course) (beside : Beside table is_over passed s past jobs n) (is : h.number ≡ n)
    (open_yet : past.took n ≡ None) (begins : Begins (past.sends n) c.sends) (certain : IsFinished table is_over (past_entries past) n c)
    (sends : c.sends ≡ all_of h) (written : IsWritten past n so_far) (none_out : jobs_now n ≡ None)
    (others_out : (k : ℕ) → k ≢ n → jobs_now k ≡ jobs k) where
  finished-beside : Beside table is_over passed (finished s h so_far c.answer) (with_course past n c) jobs_now n
  finished-beside = beside-changed table is_over passed s (finished s h so_far c.answer) past (with_at n c.sends past.sends) (with_at n (Some c) past.took) jobs jobs_now n beside
      (known.finishes table is_over past n c beside.past_is beside.given open_yet begins certain)
      refl
      (ap (λ m. map (unit_answered m c.answer) s.desk.units) is ∙ ap (map (unit_answered n c.answer)) beside.units
      ∙ known.left_answered past.took n (1 + units_numbers past.released) c past.left)
      (length-set s.desk.numbers h.number None)
      (length-set s.stages h.number (over_or_gone h so_far))
      (λ k apart. get_or-set_other s.stages h.number k (over_or_gone h so_far) Gone (λ same. apart (same ∙ is)))
      (λ k apart. known.ended_elsewhere s.desk h.number k c.answer (λ same. apart (same ∙ is)))
      others_out
      (λ k apart. at-elsewhere n c.sends past.sends k apart)
      (λ k apart. at-elsewhere n (Some c) past.took k apart)

  finished-here : FitsAt table is_over (passed n) (finished s h so_far c.answer) (with_course past n c) jobs_now n
  finished-here =
      let given = beside.given in
      let stages = beside.stages in
      let given_here : n < length s.stages = omega arith in
      let within = written.within in
      same-fits table is_over (past_entries past) (passed n) n (over_or_gone h so_far) (stage_at (finished s h so_far c.answer) n) None (number_at (with_end s.desk h.number c.answer) n)
      None (jobs_now n) c.sends (with_at n c.sends past.sends n) (sent_by n past.items) (sent_by n past.items) (Some c) (with_at n (Some c) past.took n)
      (subst (λ m. get_or (set s.stages m (over_or_gone h so_far)) n Gone ≡ over_or_gone h so_far) (sym is) (get_or-set_same s.stages n (over_or_gone h so_far) Gone given_here))
      (subst (λ m. number_at (with_end s.desk m c.answer) n ≡ None) (sym is) (known.ended_here s.desk n c.answer))
      none_out
      (at-here n c.sends past.sends)
      refl
      (at-here n (Some c) past.took)
      (over_if table is_over (past_entries past) (passed n) n h so_far c (sent_by n past.items) sends
      (written.written ∙ sym (ap (take so_far) begins.joined ∙ take-append-le so_far (past.sends n) begins.rest within))
      (omega (arith, ap length begins.joined, length-append (past.sends n) begins.rest))
      (nat_lt so_far (length h.messages + length h.waits)) refl)

  pub finished-fits : FitsAlong table is_over passed (finished s h so_far c.answer) (with_course past n c) jobs_now
  finished-fits = beside-along table is_over passed (finished s h so_far c.answer) (with_course past n c) jobs_now n finished-beside finished-here

-- ---- finished as cancelled

-- a handler that is here, of a number that isn't finished
pub record IsHere (table : MethodTable) (is_over : Bool) (passed : List SeenEntry) (s : Core) (past : Past) (n : ℕ) (h : HandlerState) (so_far : ℕ) :
    Type 0 where
  pub runs : RunFits table is_over (past_entries past) passed n h (number_at s.desk n) (past.sends n) (past.took n)
  pub last : WaitsForLast h
  pub written : IsWritten past n so_far

pub under_way : (table : MethodTable) (is_over : Bool) (entries : List SeenEntry) (n : ℕ) (sends : List Sending) (took : Option Course) → took ≡ None
    → NumberStands table is_over entries n sends took → IsUnderWay table is_over entries n sends
under_way table is_over entries n sends None is h = h
under_way table is_over entries n sends (Some c) is h = cc

module _ (known : Known) (table : MethodTable) (is_over : Bool) (passed : ℕ → List SeenEntry) (s : Core) (past : Past) (jobs jobs_now : ℕ → Option HandlerState)
    (n : ℕ) (h : HandlerState) (so_far : ℕ) (beside : Beside table is_over passed s past jobs n) (here : IsHere table is_over (passed n) s past n h so_far)
    (none_out : jobs_now n ≡ None) (others_out : (k : ℕ) → k ≢ n → jobs_now k ≡ jobs k) where
  heard : HasHeard n s.desk h (hear_waits s.desk h)
  heard = subst (λ m. HasHeard m s.desk h (hear_waits s.desk h)) here.runs.number (waits-heard known s.desk h)

  now_runs : RunFits table is_over (past_entries past) (passed n) n (hear_waits s.desk h).handler (number_at (hear_waits s.desk h).desk n) (past.sends n) (past.took n)
  now_runs = waits-fit known table is_over (past_entries past) (passed n) (past.sends n) (past.took n) n s.desk h beside.closed here.runs

  -- the desk, once it has heard
  pub heard-beside : Beside table is_over passed (record { desk = (hear_waits s.desk h).desk; stages = s.stages }) past jobs n
  heard-beside = beside-changed table is_over passed s (record { desk = (hear_waits s.desk h).desk; stages = s.stages }) past past.sends past.took jobs jobs n beside
      beside.past_is heard.closed (heard.units ∙ beside.units) heard.numbers refl (λ k apart. refl) heard.others (λ k apart. refl) (λ k apart. refl) (λ k apart. refl)

  -- it may be finished so
  cancel_certain : is_cancelled (past_entries past) n ≡ true → IsFinished table is_over (past_entries past) n (cancelled_course s h)
  cancel_certain reached =
      let now = (hear_waits s.desk h).handler in
      subst (λ ws. IsFinished table is_over (past_entries past) n (record { sends = map message now.messages ++ map withdrawal ws; answer = Fixed Cancelled }))
      (sym (turns-last h.waits s.desk h here.last).waits)
      (known.cancel_finishes table is_over (past_entries past) n now.program now.messages (λ t. not (is_heard now.heard t)) now_runs.works reached
      (subst (IsUnderWay table is_over (past_entries past) n) now_runs.sends_are
      (under_way table is_over (past_entries past) n (past.sends n) (past.took n) now_runs.unfinished (beside.past_is.numbers n))))

  cancel_begins : Begins (past.sends n) (cancelled_course s h).sends
  cancel_begins = record {
    rest = map withdrawal (hear_waits s.desk h).handler.waits;
    joined = ap (λ l. l ++ map withdrawal (hear_waits s.desk h).handler.waits) (sym now_runs.sends_are);
  }

  cancel_reached : is_marked_number (number_at s.desk n) ≡ true → is_cancelled (past_entries past) n ≡ true
  cancel_reached marked =
      known.cancel_stays (passed n) (past_entries past) n (beside.passed_begin n)
      (sym here.runs.fits.mark ∙ ap is_marked_number (sym here.runs.is_open) ∙ marked)

  pub cancelled-fits : is_marked_number (number_at s.desk n) ≡ true
      → FitsAlong table is_over passed (cancelled s h so_far) (with_course past n (cancelled_course s h)) jobs_now
  cancelled-fits marked =
      finished-fits known table is_over passed (record { desk = (hear_waits s.desk h).desk; stages = s.stages }) past jobs jobs_now n (hear_waits s.desk h).handler so_far
      (cancelled_course s h) heard-beside now_runs.number now_runs.unfinished cancel_begins (cancel_certain (cancel_reached marked)) refl here.written none_out others_out
