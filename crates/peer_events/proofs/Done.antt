-- What has been written, and that it is all once nothing is ready or out.
use Rattle.std.proofs.Common.{◌≡◌, ◌≢◌, ℕ, zero, suc, ◌+◌, ◌<◌, ◌≤◌, List, [], ◌∷◌, get_or, Bool, true, false, cond, ◌&&◌, Option, Some, None, slice_get, ◌⊎◌, inl, inr, refl, sym, ap, subst, ◌∙◌, arith}
use Rattle.std.proofs.Math.ListN.{get_or-map}
use Rattle.std.proofs.lemmas.List.{get_or_past}
use Rattle.std.specs.List.{list_all}
use Rattle.rpc_messages.specs.declared.call.Call.{Call}
use Rattle.message_ids.specs.declared.id.Id.{Id}
use Rattle.rpc_messages.specs.declared.params.Params.{Params}
use Rattle.rpc_messages.specs.declared.params.Params.TheVariants.{Omitted, Whole, Fractional}
use Rattle.rpc_messages.specs.Entry.{SeenEntry, call, reply, stray, invalid}
use Rattle.rpc_messages.specs.Numbering.{numbers_of, numbers_in, unit_numbers, units_numbers}
use Rattle.rpc_messages.specs.Replies.{calls_in}
use Rattle.rpc_messages.specs.Unit.{SeenUnit, unreadable, single, batch}
use Rattle.message_ids.specs.declared.standard.Standard.TheVariants.{MethodNotFound}
use Rattle.method_steps.specs.Steps.{MethodTable, place_of}
use Rattle.answer_desk.specs.State.{State, number_at}
use Rattle.answer_desk.specs.Waiting.{request, is_finished, is_whole, behind_front}
use Rattle.handler_future.specs.State.{HandlerState}
use Rattle.peer_events.specs.declared.stage.Stage.{Stage}
use Rattle.peer_events.specs.declared.stage.Stage.TheVariants.{Gone, Faulty, Idle, Out, Over, Failed}
use Rattle.peer_output.specs.Work.{nothing, fault, is_protocol_method, work_with, work_at, call_work, work_for, work}
use Rattle.peer_output.specs.Cancelled.{Begins}
use Rattle.peer_output.specs.Course.{Course}
use Rattle.peer_output.specs.Items.{sent_by}
use Rattle.peer_output.specs.Left.{finished_with, call_left, entry_left, entries_left, unit_left, units_left}
use Rattle.peer_output.specs.Output.{IsOutput}
use Rattle.peer_output.specs.Past.{Past, past_units, past_entries}
use Rattle.peer_events.specs.Core.{Core, stage_at}
use Rattle.peer_events.specs.Fits.{IsGone, NumberFits, AtRest}
use Rattle.peer_events.specs.Hearing.{is_ready}
use Rattle.peer_events.specs.Inner.Known.{Known}
use Rattle.peer_events.specs.Turning.{is_ready_stage, ready_from, ready, written_stage, drained}
use Rattle.peer_events.proofs.Streams.{begins-nothing, numbers-along, units-append, call-unknown}
use Rattle.peer_events.proofs.Waits.{closed-ready}

-- ---- where all is gone

none-left : (took : ℕ → Option Course) (n : ℕ) (us : List SeenUnit) → units_left took n us ≡ [] → us ≡ []
none-left took n [] is = refl
none-left took n (u ∷ us) is = cc

unknown-work : (table : MethodTable) (entries : List SeenEntry) (n : ℕ) → numbers_in entries < n → work table entries n ≡ nothing
unknown-work table entries zero later = absurd (omega arith)
unknown-work table entries (suc n) later = ap (work_for table) (call-unknown (suc n) entries later)

module _ (known : Known) (table : MethodTable) (s : Core) (past : Past) (jobs : ℕ → Option HandlerState) (rest : AtRest table true s past jobs)
    (gone : (n : ℕ) → stage_at s n ≡ Gone) where
  gone_fits : (n : ℕ) → n ≤ units_numbers (past_units past)
      → NumberFits table true (past_entries past) (past_entries past) n Gone (number_at s.desk n) (jobs n) (past.sends n) (sent_by n past.items) (past.took n)
  gone_fits n given = subst (λ st. NumberFits table true (past_entries past) (past_entries past) n st (number_at s.desk n) (jobs n) (past.sends n) (sent_by n past.items) (past.took n))
      (gone n) (rest.each n given)

  all_written : (n : ℕ) → (n ≤ units_numbers (past_units past)) ⊎ (units_numbers (past_units past) < n) → sent_by n past.items ≡ past.sends n
  all_written n (inl given) = (gone_fits n given).2
  all_written n (inr later) =
      let none = (rest.past_is.later n later).0 in
      begins-nothing (sent_by n past.items) (subst (Begins (sent_by n past.items)) none (rest.past_is.written n)) ∙ sym none

  untaken : (n : ℕ) → IsGone table (past_entries past) n (past.took n) → past.took n ≡ None → work table (past_entries past) n ≡ nothing
  untaken n (inl finished) none = absurd (let is = finished.1 in cc)
  untaken n (inr idle) none = idle.0

  all_finished : (n : ℕ) → (n ≤ units_numbers (past_units past)) ⊎ (units_numbers (past_units past) < n) → past.took n ≡ None
      → work table (past_entries past) n ≡ nothing
  all_finished n (inl given) none = untaken n (gone_fits n given).3 none
  all_finished n (inr later) none = unknown-work table (past_entries past) n (omega (arith, numbers-along (past_units past), later))

  pub done-output : s.desk.units ≡ [] → IsOutput table (past_units past) past.items
  done-output none =
      known.is_output table past rest.past_is (none-left past.took (1 + units_numbers past.released) past.left (sym rest.units ∙ none))
      (λ n. all_written n (grind arith)) (λ n. all_finished n (grind arith))

-- ---- where nothing is ready

not_ready_if : (b : Bool) (n : ℕ) (ns : List ℕ) → cond b (n ∷ ns) ns ≡ [] → (b ≡ false) × (ns ≡ [])
not_ready_if true n ns is = cc
not_ready_if false n ns is = (refl, is)

none-ready : (desk : State) (n k : ℕ) (stages : List Stage) → ready_from desk n stages ≡ [] → is_ready_stage desk (get_or stages k Gone) ≡ false
none-ready desk n k [] is = refl
none-ready desk n zero (stage ∷ stages) is = (not_ready_if (is_ready_stage desk stage) n (ready_from desk (n + 1) stages) is).0
none-ready desk n (suc k) (stage ∷ stages) is =
    none-ready desk (n + 1) k stages (not_ready_if (is_ready_stage desk stage) n (ready_from desk (n + 1) stages) is).1

-- ---- a call has something to do

params_do : (table : MethodTable) (place : ℕ) (c : Call) (p : Params) → work_with table place c p ≢ nothing
params_do table place c Omitted = λ is. absurd (cc)
params_do table place c (Whole d) = λ is. absurd (cc)
params_do table place c Fractional = λ is. absurd (cc)

place_does : (table : MethodTable) (c : Call) (place : Option ℕ) → work_at table c place ≢ nothing
place_does table c None = λ is. absurd (cc)
place_does table c (Some place) = params_do table place c c.params

call_does : (table : MethodTable) (c : Call) (own : Bool) → is_protocol_method c.method ≡ own → call_work table c ≢ nothing
call_does table c true own is = absurd (let is_fault = ap (λ b. cond b (fault MethodNotFound) (work_at table c (place_of c.method table.methods))) own in cc)
call_does table c false own is =
    place_does table c (place_of c.method table.methods)
    (sym (ap (λ b. cond b (fault MethodNotFound) (work_at table c (place_of c.method table.methods))) own) ∙ is)

call-there : (k : ℕ) (es : List SeenEntry) → k < numbers_in es → (c : Call) × (slice_get (calls_in es) k ≡ Some c)
call-there k [] less = absurd (omega arith)
call-there zero (call c ∷ es) less = (c, refl)
call-there (suc k) (call c ∷ es) less = call-there k es (omega arith)
call-there k (reply m t r ∷ es) less = call-there k es (omega arith)
call-there k (stray ∷ es) less = call-there k es (omega arith)
call-there k (invalid ∷ es) less = call-there k es (omega arith)

-- a number that is over, and isn't the opening's, has an answer
pub gone-answered : (table : MethodTable) (entries : List SeenEntry) (n : ℕ) (took : Option Course) → 1 ≤ n → n ≤ numbers_in entries → IsGone table entries n took
    → (c : Course) × (took ≡ Some c)
gone-answered table entries n took low high (inl finished) = finished
gone-answered table entries zero took low high (inr idle) = absurd (omega arith)
gone-answered table entries (suc n) took low high (inr idle) =
    let found = call-there n entries (omega arith) in
    absurd (call_does table found.0 (is_protocol_method found.0.method) refl (ap (work_for table) (sym found.1) ∙ idle.0))

-- ---- units all of whose calls have an answer are whole

Answered : (ℕ → Option Course) → ℕ → ℕ → Type 0
Answered took n many = (k : ℕ) → n ≤ k → k < n + many → (c : Course) × (took k ≡ Some c)

call-whole : (took : ℕ → Option Course) (n : ℕ) (id : Option Id) → (c : Course) × (took n ≡ Some c) → is_finished (call_left took n id) ≡ true
call-whole took n None finished = refl
call-whole took n (Some id) finished = ap (λ o. is_finished (request n id (finished_with o))) finished.1

entry-whole : (took : ℕ → Option Course) (n : ℕ) (e : SeenEntry) → Answered took n (numbers_of e) → is_finished (entry_left took n e) ≡ true
unfolding Answered
entry-whole took n (call c) finished = call-whole took n c.id (finished n (omega arith) (omega arith))
entry-whole took n (reply m t r) finished = refl
entry-whole took n stray finished = refl
entry-whole took n invalid finished = refl

entries-whole : (took : ℕ → Option Course) (n : ℕ) (es : List SeenEntry) → Answered took n (numbers_in es) → list_all is_finished (entries_left took n es) ≡ true
unfolding Answered
entries-whole took n [] finished = refl
entries-whole took n (e ∷ es) finished =
    ap (λ b. b && list_all is_finished (entries_left took (n + numbers_of e) es)) (entry-whole took n e (λ k low high. finished k low (omega arith)))
    ∙ entries-whole took (n + numbers_of e) es (λ k low high. finished k (omega arith) (omega arith))

unit-whole : (took : ℕ → Option Course) (n : ℕ) (u : SeenUnit) → Answered took n (unit_numbers u) → is_whole (unit_left took n u) ≡ true
unfolding Answered
unit-whole took n unreadable finished = refl
unit-whole took n (single e) finished = ap (λ b. b && true) (entry-whole took n e (λ k low high. finished k low (omega arith)))
unit-whole took n (batch es) finished = entries-whole took n es finished

units-whole : (took : ℕ → Option Course) (n : ℕ) (us : List SeenUnit) → Answered took n (units_numbers us) → behind_front (units_left took n us) ≡ []
unfolding Answered
units-whole took n [] finished = refl
units-whole took n (u ∷ us) finished =
    ap (λ b. cond b (behind_front (units_left took (n + unit_numbers u) us)) (unit_left took n u ∷ units_left took (n + unit_numbers u) us))
    (unit-whole took n u (λ k low high. finished k low (omega arith)))
    ∙ units-whole took (n + unit_numbers u) us (λ k low high. finished k (omega arith) (omega arith))

-- ---- nothing is stuck

module _ (table : MethodTable) (s : Core) (past : Past) (jobs : ℕ → Option HandlerState) (rest : AtRest table true s past jobs)
    (none_ready : ready s ≡ []) (none_out : (n : ℕ) → jobs n ≡ None) (none_failed : (n : ℕ) → stage_at s n ≢ Failed) where
  over_of : (n : ℕ) → n ≤ units_numbers (past_units past) → (stage : Stage) → stage_at s n ≡ stage
      → NumberFits table true (past_entries past) (past_entries past) n stage (number_at s.desk n) (jobs n) (past.sends n) (sent_by n past.items) (past.took n)
      → IsGone table (past_entries past) n (past.took n) × (written_stage stage ≡ Gone)
  over_of n given Gone is fits = (fits.3, refl)
  over_of n given (Faulty error) is fits = absurd (let later = fits.5 in omega (arith, numbers-along (past_units past)))
  over_of n given (Idle h so_far) is fits =
      let here : is_ready s.desk h ≡ true = closed-ready table true (past_entries past) (past_entries past) n h s.desk (past.sends n) (past.took n) fits.0 rest.closed fits.1 in
      let not_here : is_ready s.desk h ≡ false = ap (is_ready_stage s.desk) (sym is) ∙ none-ready s.desk 0 n s.stages none_ready in
      absurd (cc)
  over_of n given (Out so_far) is fits = absurd (let some = fits.1 in let none = none_out n in cc)
  over_of n given (Over h so_far) is fits = (inl (fits.2.course, fits.2.took_is), refl)
  over_of n given Failed is fits = absurd (none_failed n is)

  pub all-over : (n : ℕ) → n ≤ units_numbers (past_units past) → IsGone table (past_entries past) n (past.took n)
  all-over n given = (over_of n given (stage_at s n) refl (rest.each n given)).0

  drained_if : (n : ℕ) → (n ≤ units_numbers (past_units past)) ⊎ (units_numbers (past_units past) < n) → written_stage (stage_at s n) ≡ Gone
  drained_if n (inl given) = (over_of n given (stage_at s n) refl (rest.each n given)).1
  drained_if n (inr later) =
      let stages = rest.stages in
      ap written_stage (get_or_past s.stages n Gone (omega arith))

  pub drained-gone : (n : ℕ) → stage_at (drained s) n ≡ Gone
  drained-gone n = get_or-map written_stage s.stages n Gone ∙ drained_if n (grind arith)

  pub drained-none : (drained s).desk.units ≡ []
  unfolding Answered
  drained-none =
      ap behind_front rest.units
      ∙ units-whole past.took (1 + units_numbers past.released) past.left
      (λ k low high. let given : k ≤ units_numbers (past_units past) = omega (arith, units-append past.released past.left) in
      gone-answered table (past_entries past) k (past.took k) (omega arith) (omega (arith, numbers-along (past_units past), given)) (all-over k given))
