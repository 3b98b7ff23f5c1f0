-- A unit comes to a session at rest: its numbers are given, and none of its entries is passed.
use Rattle.std.proofs.Common.{◌≡◌, ◌≢◌, ℕ, zero, suc, ◌+◌, ◌-◌, ◌<◌, ◌≤◌, List, [], ◌∷◌, ◌++◌, length, get_or, Bool, true, false, cond, Option, Some, None, ◌⊎◌, inl, inr, refl, sym, ap, subst, ◌∙◌, append_assoc, append-nil, arith}
use Rattle.std.proofs.lemmas.Bool.{cases_lt}
use Rattle.std.proofs.lemmas.List.{length-append, length-replicate, get_or_append_left, get_or-append_right}
use Rattle.std.specs.Option.{option_and_then}
use Rattle.std.specs.Prelude.{slice_get}
use Rattle.rpc_messages.specs.declared.call.Call.{Call}
use Rattle.message_ids.specs.declared.id.Id.{Id}
use Rattle.rpc_messages.specs.declared.params.Params.{Params}
use Rattle.rpc_messages.specs.declared.params.Params.TheVariants.{Omitted, Whole, Fractional}
use Rattle.message_ids.specs.declared.standard.Standard.TheVariants.{MethodNotFound}
use Rattle.rpc_messages.specs.Dues.{unit_kind}
use Rattle.rpc_messages.specs.Entry.{SeenEntry, call, reply, stray, invalid}
use Rattle.rpc_messages.specs.Numbering.{numbers_in, entries_in, unit_numbers, units_numbers}
use Rattle.rpc_messages.specs.Replies.{entries_along, calls_in, call_numbered}
use Rattle.rpc_messages.specs.Unit.{SeenUnit, unreadable, single, batch}
use Rattle.method_templates.specs.Steps.{calls_of}
use Rattle.method_steps.specs.Steps.{MethodTable, place_of}
use Rattle.open_numbers.specs.declared.replies.Slot.TheVariants.{Empty}
use Rattle.open_numbers.specs.OpenCalls.{new_number}
use Rattle.answer_desk.specs.Places.{new_numbers, new_parts, call_part}
use Rattle.answer_desk.specs.State.{number_at, with_unit}
use Rattle.answer_desk.specs.Waiting.{silent as no_answer, invalid as no_call}
use Rattle.handler_future.specs.State.{HandlerState, new_state}
use Rattle.peer_events.specs.declared.stage.Stage.TheVariants.{Gone}
use Rattle.peer_output.specs.Work.{Work, nothing, fault, run, work, work_with, work_at, work_for, call_work, is_protocol_method}
use Rattle.peer_output.specs.Cancelled.{Begins, request_id}
use Rattle.peer_output.specs.Events.{with_units}
use Rattle.peer_output.specs.Items.{sent_by}
use Rattle.peer_output.specs.Left.{place_for, places_for, unit_places, unit_left, units_left}
use Rattle.peer_output.specs.Past.{Past, past_units, past_entries}
use Rattle.peer_events.specs.Core.{Core, stage_at}
use Rattle.peer_events.specs.Fits.{SlotFits, NumberFits, Fits, AtRest}
use Rattle.peer_events.specs.Taking.{most_of, place_of_entry, places_of_entries, places_of_unit, shape_of_unit, stage_for, stages_for, opened}
use Rattle.peer_events.specs.Inner.Known.{Known}
use Rattle.peer_events.proofs.Beside.{same-fits}
use Rattle.peer_events.proofs.Carried.{Carries, carried}
use Rattle.peer_events.proofs.Pointwise.{number-opened_before, number-opened_behind}
use Rattle.peer_events.proofs.Started.{slots-new}
use Rattle.peer_events.proofs.Streams.{along-append, units-append, numbers-along, begins-nothing, call-beyond, id-front, cancelled-unknown, reply-unknown}

-- ---- each call has some work

with-some : (table : MethodTable) (place : ℕ) (c : Call) (params : Params) → work_with table place c params ≢ nothing
with-some table place c Omitted h = cc
with-some table place c (Whole params) h = cc
with-some table place c Fractional h = cc

at-some : (table : MethodTable) (c : Call) (place : Option ℕ) → work_at table c place ≢ nothing
at-some table c None h = cc
at-some table c (Some place) h = with-some table place c c.params h

if-some : (b : Bool) (these others : Work) → these ≢ nothing → others ≢ nothing → cond b these others ≢ nothing
if-some true these others some else_some = some
if-some false these others some else_some = else_some

not_found-some : fault MethodNotFound ≢ nothing
not_found-some h = cc

call-some : (table : MethodTable) (c : Call) → call_work table c ≢ nothing
call-some table c =
    if-some (is_protocol_method c.method) (fault MethodNotFound) (work_at table c (place_of c.method table.methods)) not_found-some
    (at-some table c (place_of c.method table.methods))

work-call : (table : MethodTable) (entries : List SeenEntry) (n : ℕ) (c : Call) → 0 < n → call_numbered n entries ≡ Some c → work table entries n ≡ call_work table c
work-call table entries zero c some is = absurd (omega arith)
work-call table entries (suc n) c some is = ap (work_for table) is

-- ---- the calls of entries, at the desk and in the stages

-- what stands for call k of entries whose first call is number n
record NewCall (table : MethodTable) (n : ℕ) (es : List SeenEntry) (k : ℕ) : Type 0 where
  pub call : Call
  pub is_call : slice_get (calls_in es) k ≡ Some call
  pub stage : get_or (stages_for table n es) k Gone ≡ stage_for (n + k) (call_work table call)
  pub number : get_or (new_numbers (places_of_entries table es)) k None ≡ Some (new_number call.id (most_of (call_work table call)))

new-call : (table : MethodTable) (n : ℕ) (es : List SeenEntry) (k : ℕ) → k < numbers_in es → NewCall table n es k
new-call table n [] k h = absurd (omega arith)
new-call table n (call c ∷ es) zero h =
    let here : n ≡ n + 0 = omega arith in
    record { call = c; is_call = refl; stage = ap (λ m. stage_for m (call_work table c)) here; number = refl }
new-call table n (call c ∷ es) (suc k) h =
    let later = new-call table (n + 1) es k (omega (arith, h)) in
    let place : n + 1 + k ≡ n + suc k = omega arith in
    record { call = later.call; is_call = later.is_call; stage = later.stage ∙ ap (λ m. stage_for m (call_work table later.call)) place; number = later.number }
new-call table n (reply m t r ∷ es) k h =
    let later = new-call table (n + 0) es k (omega (arith, h)) in
    let place : n + 0 + k ≡ n + k = omega arith in
    record { call = later.call; is_call = later.is_call; stage = later.stage ∙ ap (λ m. stage_for m (call_work table later.call)) place; number = later.number }
new-call table n (stray ∷ es) k h =
    let later = new-call table (n + 0) es k (omega (arith, h)) in
    let place : n + 0 + k ≡ n + k = omega arith in
    record { call = later.call; is_call = later.is_call; stage = later.stage ∙ ap (λ m. stage_for m (call_work table later.call)) place; number = later.number }
new-call table n (invalid ∷ es) k h =
    let later = new-call table (n + 0) es k (omega (arith, h)) in
    let place : n + 0 + k ≡ n + k = omega arith in
    record { call = later.call; is_call = later.is_call; stage = later.stage ∙ ap (λ m. stage_for m (call_work table later.call)) place; number = later.number }

-- how many there are
stages-many : (table : MethodTable) (n : ℕ) (es : List SeenEntry) → length (stages_for table n es) ≡ numbers_in es
stages-many table n [] = refl
stages-many table n (call c ∷ es) = omega (arith, stages-many table (n + 1) es)
stages-many table n (reply m t r ∷ es) = omega (arith, stages-many table (n + 0) es)
stages-many table n (stray ∷ es) = omega (arith, stages-many table (n + 0) es)
stages-many table n (invalid ∷ es) = omega (arith, stages-many table (n + 0) es)

numbers-many : (table : MethodTable) (es : List SeenEntry) → length (new_numbers (places_of_entries table es)) ≡ numbers_in es
numbers-many table [] = refl
numbers-many table (call c ∷ es) = omega (arith, numbers-many table es)
numbers-many table (reply m t r ∷ es) = omega (arith, numbers-many table es)
numbers-many table (stray ∷ es) = omega (arith, numbers-many table es)
numbers-many table (invalid ∷ es) = omega (arith, numbers-many table es)

unit-numbers : (table : MethodTable) (u : SeenUnit) → new_numbers (places_of_unit table u) ≡ new_numbers (places_of_entries table (entries_in u))
unit-numbers table unreadable = refl
unit-numbers table (single e) = refl
unit-numbers table (batch es) = refl

-- ---- the unit as it is left at the desk

entries-parts : (table : MethodTable) (most : ℕ → ℕ) (n m : ℕ) (es : List SeenEntry) → new_parts n (places_of_entries table es) ≡ new_parts n (places_for most m es)
entries-parts table most n m [] = refl
entries-parts table most n m (call c ∷ es) = ap (λ l. call_part n c.id ∷ l) (entries-parts table most (n + 1) (m + 1) es)
entries-parts table most n m (reply k t r ∷ es) = ap (λ l. no_answer ∷ l) (entries-parts table most n (m + 0) es)
entries-parts table most n m (stray ∷ es) = ap (λ l. no_answer ∷ l) (entries-parts table most n (m + 0) es)
entries-parts table most n m (invalid ∷ es) = ap (λ l. no_call ∷ l) (entries-parts table most n (m + 0) es)

entry-parts : (table : MethodTable) (most : ℕ → ℕ) (n : ℕ) (e : SeenEntry) → new_parts n (place_of_entry table e ∷ []) ≡ new_parts n (place_for most n e ∷ [])
entry-parts table most n (call c) = refl
entry-parts table most n (reply k t r) = refl
entry-parts table most n stray = refl
entry-parts table most n invalid = refl

unit-parts : (table : MethodTable) (most : ℕ → ℕ) (n : ℕ) (u : SeenUnit) → new_parts n (places_of_unit table u) ≡ new_parts n (unit_places most n u)
unit-parts table most n unreadable = refl
unit-parts table most n (single e) = entry-parts table most n e
unit-parts table most n (batch es) = entries-parts table most n n es

-- ---- a number that is new

fresh : Known → (table : MethodTable) (entries passed : List SeenEntry) (n : ℕ) (id : Option Id) (w : Work) → work table entries n ≡ w → w ≢ nothing → id ≡ request_id entries n
    → numbers_in passed < n → NumberFits table false entries passed n (stage_for n w) (Some (new_number id (most_of w))) None [] [] None
fresh known table entries passed n id nothing is some same behind = absurd (some refl)
fresh known table entries passed n id (fault error) is some same behind = ((new_number id 0, refl, refl), refl, refl, refl, is, behind)
fresh known table entries passed n id (run program) is some same behind = (
  record {
    number = refl;
    works = is;
    heard = known.hears_nothing false passed n;
    sends_are = refl;
    unfinished = refl;
    kept = new_number id (calls_of program.steps);
    is_open = refl;
    fits = record {
      id = same;
      mark = sym (cancelled-unknown passed n behind);
      turns = length-replicate (calls_of program.steps) Empty;
      slots = λ turn slot at. subst (SlotFits passed n (new_state n program) turn) (sym (slots-new (calls_of program.steps) turn slot at)) (reply-unknown n turn passed behind, refl);
    };
  },
  inl (program, refl),
  refl,
  refl,
  refl,
  omega arith,
)

-- ---- the whole

module _ (known : Known) (table : MethodTable) (s : Core) (past : Past) (jobs : ℕ → Option HandlerState) (rest : AtRest table false s past jobs) (u : SeenUnit) where
  pub units-same : past_units (with_units past (u ∷ [])) ≡ past_units past ++ u ∷ []
  units-same = sym (append_assoc past.released past.left (u ∷ []))

  pub entries-same : past_entries (with_units past (u ∷ [])) ≡ past_entries past ++ entries_in u
  entries-same = ap entries_along units-same ∙ along-append (past_units past) (u ∷ []) ∙ ap (λ es. past_entries past ++ es) (append-nil (entries_in u))

  entries-begin : Begins (past_entries past) (past_entries (with_units past (u ∷ [])))
  entries-begin = record { rest = entries_in u; joined = entries-same }

  many-same : units_numbers (past_units (with_units past (u ∷ []))) ≡ units_numbers (past_units past) + unit_numbers u
  many-same = ap units_numbers units-same ∙ omega (arith, units-append (past_units past) (u ∷ []))

  many-passed : numbers_in (past_entries past) ≡ units_numbers (past_units past)
  many-passed = numbers-along (past_units past)

  none-took : (k : ℕ) → length s.desk.numbers ≤ k → past.took k ≡ None
  none-took k le = (rest.past_is.later k (omega (arith, rest.numbers, le))).1

  opened-units : (with_unit s.desk (shape_of_unit table u)).units ≡ units_left past.took (1 + units_numbers past.released) (past.left ++ u ∷ [])
  opened-units =
      let next : length s.desk.numbers ≡ 1 + units_numbers past.released + units_numbers past.left = omega (arith, rest.numbers, units-append past.released past.left) in
      ap (λ us. us ++ record { kind = unit_kind u; parts = new_parts (length s.desk.numbers) (places_of_unit table u) } ∷ []) rest.units
      ∙ ap (λ ps. units_left past.took (1 + units_numbers past.released) past.left ++ record { kind = unit_kind u; parts = ps } ∷ []) (unit-parts table (λ k. 0) (length s.desk.numbers) u)
      ∙ ap (λ w. units_left past.took (1 + units_numbers past.released) past.left ++ w ∷ []) (known.left_opened past.took (λ k. 0) (length s.desk.numbers) u none-took)
      ∙ ap (λ k. units_left past.took (1 + units_numbers past.released) past.left ++ unit_left past.took k u ∷ []) next
      ∙ sym (known.left_behind past.took (1 + units_numbers past.released) past.left (u ∷ []))

  given-carried : (n : ℕ) → n ≤ units_numbers (past_units past)
      → Carries table false (past_entries past) (past_entries past) (past_entries (with_units past (u ∷ []))) (past_entries past) n (stage_at s n) (number_at s.desk n) (number_at s.desk n)
  given-carried n le =
      let came : n ≤ numbers_in (past_entries past) = omega (arith, le, many-passed) in
      record {
        works = known.work_stays table (past_entries past) (past_entries (with_units past (u ∷ []))) n came entries-begin;
        closed = λ is. is;
        behind = λ error is lt. lt;
        faulty = λ error is lt kept is_open unmarked. (kept, is_open, unmarked);
        unmarked = λ is. is;
        heard = λ heard from. from;
        keeps = λ h kept is_open f. (
          kept,
          is_open,
          record { id = f.id ∙ sym (id-front n (past_entries past) (past_entries (with_units past (u ∷ []))) came entries-begin); mark = f.mark; turns = f.turns; slots = f.slots },
        );
      }

  given-fits : (n : ℕ) → n ≤ units_numbers (past_units past)
      → NumberFits table false (past_entries (with_units past (u ∷ []))) (past_entries past) n (stage_at (opened table s u) n) (number_at (opened table s u).desk n) (jobs n)
      (past.sends n) (sent_by n past.items) (past.took n)
  given-fits n le =
      same-fits table false (past_entries (with_units past (u ∷ []))) (past_entries past) n (stage_at s n) (stage_at (opened table s u) n) (number_at s.desk n) (number_at (opened table s u).desk n)
      (jobs n) (jobs n) (past.sends n) (past.sends n) (sent_by n past.items) (sent_by n past.items) (past.took n) (past.took n)
      (get_or_append_left s.stages (stages_for table (length s.stages) (entries_in u)) Gone n (omega (arith, le, rest.stages)))
      (number-opened_before s.desk (shape_of_unit table u) n (omega (arith, le, rest.numbers))) refl refl refl refl
      (carried table false (past_entries past) (past_entries past) (past_entries (with_units past (u ∷ []))) (past_entries past) n (number_at s.desk n) (number_at s.desk n)
      (stage_at s n) (jobs n) (past.sends n) (sent_by n past.items) (past.took n) (given-carried n le) (rest.each n le))

  -- of a number that came with the unit, which is call k of it
  new-fits : (n k : ℕ) → n ≡ 1 + units_numbers (past_units past) + k → k < unit_numbers u
      → NumberFits table false (past_entries (with_units past (u ∷ []))) (past_entries past) n (stage_at (opened table s u) n) (number_at (opened table s u).desk n) (jobs n)
      (past.sends n) (sent_by n past.items) (past.took n)
  new-fits n k place below =
      let new = new-call table (length s.stages) (entries_in u) k below in
      let at_stage : n - length s.stages ≡ k = omega (arith, place, rest.stages) in
      let at_number : n - length s.desk.numbers ≡ k = omega (arith, place, rest.numbers) in
      let at_call : length s.stages + k ≡ n = omega (arith, place, rest.stages) in
      let none = rest.past_is.later n (omega (arith, place)) in
      let numbered : call_numbered n (past_entries (with_units past (u ∷ []))) ≡ Some new.call =
      ap (call_numbered n) entries-same ∙ call-beyond k n (past_entries past) (entries_in u) (omega (arith, place, many-passed)) ∙ new.is_call in
      let stage : stage_at (opened table s u) n ≡ stage_for n (call_work table new.call) =
      get_or-append_right s.stages (stages_for table (length s.stages) (entries_in u)) (length s.stages) n Gone refl (omega (arith, place, rest.stages))
      ∙ ap (λ i. get_or (stages_for table (length s.stages) (entries_in u)) i Gone) at_stage ∙ new.stage ∙ ap (λ m. stage_for m (call_work table new.call)) at_call in
      let number : number_at (opened table s u).desk n ≡ Some (new_number new.call.id (most_of (call_work table new.call))) =
      number-opened_behind s.desk (shape_of_unit table u) n (omega (arith, place, rest.numbers))
      ∙ ap (λ i. get_or (new_numbers (places_of_unit table u)) i None) at_number ∙ ap (λ l. get_or l k None) (unit-numbers table u) ∙ new.number in
      same-fits table false (past_entries (with_units past (u ∷ []))) (past_entries past) n (stage_for n (call_work table new.call)) (stage_at (opened table s u) n)
      (Some (new_number new.call.id (most_of (call_work table new.call)))) (number_at (opened table s u).desk n) None (jobs n) [] (past.sends n) [] (sent_by n past.items) None (past.took n)
      stage number (rest.no_more_jobs n (omega (arith, place))) none.0
      (begins-nothing (sent_by n past.items) (subst (Begins (sent_by n past.items)) none.0 (rest.past_is.written n))) none.1
      (fresh known table (past_entries (with_units past (u ∷ []))) (past_entries past) n new.call.id (call_work table new.call)
      (work-call table (past_entries (with_units past (u ∷ []))) n new.call (omega (arith, place)) numbered) (call-some table new.call)
      (sym (ap (option_and_then (λ (c : Call). c.id)) numbered)) (omega (arith, place, many-passed)))

  each-opened : (n : ℕ) → n ≤ units_numbers (past_units (with_units past (u ∷ [])))
      → NumberFits table false (past_entries (with_units past (u ∷ []))) (past_entries past) n (stage_at (opened table s u) n) (number_at (opened table s u).desk n) (jobs n)
      (past.sends n) (sent_by n past.items) (past.took n)
  each-opened n le = by_place (cases_lt (units_numbers (past_units past)) n)
    where
      by_place : (units_numbers (past_units past) < n) ⊎ (n ≤ units_numbers (past_units past))
          → NumberFits table false (past_entries (with_units past (u ∷ []))) (past_entries past) n (stage_at (opened table s u) n) (number_at (opened table s u).desk n) (jobs n)
          (past.sends n) (sent_by n past.items) (past.took n)
      by_place (inl new) = new-fits n (n - (1 + units_numbers (past_units past))) (omega (arith, new)) (omega (arith, new, le, many-same))
      by_place (inr given) = given-fits n given

  pub opened-fits : Fits table false (past_entries past) (opened table s u) (with_units past (u ∷ [])) jobs
  opened-fits = record {
    past_is = known.units_come table past (u ∷ []) rest.past_is;
    closed = rest.closed;
    units = opened-units;
    numbers = length-append s.desk.numbers (new_numbers (places_of_unit table u))
        ∙ omega (arith, rest.numbers, many-same, ap length (unit-numbers table u), numbers-many table (entries_in u));
    stages = length-append s.stages (stages_for table (length s.stages) (entries_in u)) ∙ omega (arith, rest.stages, many-same, stages-many table (length s.stages) (entries_in u));
    passed_begin = entries-begin;
    each = each-opened;
    no_more_jobs = λ n lt. rest.no_more_jobs n (omega (arith, lt, many-same));
  }
