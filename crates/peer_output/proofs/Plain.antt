-- A peer without methods: the answers that are due are all of its output.
use Rattle.std.proofs.Common.{◌≡◌, ℕ, zero, suc, ◌+◌, ◌<◌, ◌≤◌, List, [], ◌∷◌, ◌++◌, length, map, All, Bool, true, false, cond, Option, Some, None, inl, refl, sym, ap, ◌∙◌, arith}
use Rattle.std.proofs.lemmas.List.Elements.{All-nil, All-append, All-cons}
use Rattle.std.specs.Prelude.{slice_get}
use Rattle.rpc_messages.specs.declared.call.Call.{Call}
use Rattle.message_ids.specs.declared.id.Id.{Id}
use Rattle.rpc_messages.specs.declared.reply.Reply.TheVariants.{Standard as Fixed}
use Rattle.message_ids.specs.declared.standard.Standard.TheVariants.{MethodNotFound}
use Rattle.rpc_messages.specs.Dues.{Due, call_request, entry_request, requests_from, unit_requests, dues}
use Rattle.rpc_messages.specs.Entry.{SeenEntry, call, reply, stray, invalid}
use Rattle.rpc_messages.specs.Numbering.{numbers_of, numbers_in, unit_numbers, units_numbers}
use Rattle.rpc_messages.specs.Replies.{entries_along, calls_in, call_numbered, replies}
use Rattle.rpc_messages.specs.Unit.{SeenUnit, unreadable, single, batch}
use Rattle.rpc_messages.proofs.Stream.{length-calls_in, numbers_in-entries_along}
use Rattle.method_steps.specs.Steps.{MethodTable}
use Rattle.handler_future.specs.Evaluation.{Program}
use Rattle.peer_output.specs.Work.{Work, fault, run, work, work_for, is_protocol_method}
use Rattle.peer_output.specs.Course.{Course, course, course_of}
use Rattle.peer_output.specs.Cancelled.{IsCancelledCourse}
use Rattle.peer_output.specs.Items.{Item, answered, sent_by, answers_in}
use Rattle.peer_output.specs.Output.{IsOutput}
use Rattle.peer_output.specs.Past.{requests_of}
use Rattle.peer_output.proofs.Fronts.{begins-empty}
use Rattle.peer_output.proofs.Parts.{sent_by-append}
use Rattle.peer_output.proofs.Dues.{dues-same}
use Rattle.peer_output.proofs.Laws.{all-mapped, parts-determined}
use Rattle.peer_output.proofs.Pasts.{answers-answered, silent-answers}

abbrev pub no_methods : MethodTable
no_methods = record { opening = []; methods = [] }

-- ---- requests are calls that came

call-bounds : (n : ℕ) (id : Option Id) → All (λ k. (n ≤ k) × (k < n + 1)) (call_request n id)
call-bounds n None = All-nil (λ k. (n ≤ k) × (k < n + 1))
call-bounds n (Some id) = All-cons (λ k. (n ≤ k) × (k < n + 1)) n [] (omega arith, omega arith) (All-nil (λ k. (n ≤ k) × (k < n + 1)))

entry-bounds : (n : ℕ) (e : SeenEntry) → All (λ k. (n ≤ k) × (k < n + numbers_of e)) (entry_request n e)
entry-bounds n (call c) = call-bounds n c.id
entry-bounds n (reply m t r) = All-nil (λ k. (n ≤ k) × (k < n + 0))
entry-bounds n stray = All-nil (λ k. (n ≤ k) × (k < n + 0))
entry-bounds n invalid = All-nil (λ k. (n ≤ k) × (k < n + 0))

wider : (n m low high : ℕ) (ks : List ℕ) → n ≤ low → high ≤ m → All (λ k. (low ≤ k) × (k < high)) ks → All (λ k. (n ≤ k) × (k < m)) ks
wider n m low high ks below above h = all-mapped (λ k. (low ≤ k) × (k < high)) (λ k. (n ≤ k) × (k < m)) ks (λ k b. let first = b.0 in let last = b.1 in (omega arith, omega arith)) h

entries-bounds : (n : ℕ) (es : List SeenEntry) → All (λ k. (n ≤ k) × (k < n + numbers_in es)) (requests_from n es)
entries-bounds n [] = All-nil (λ k. (n ≤ k) × (k < n + 0))
entries-bounds n (e ∷ es) =
    All-append (λ k. (n ≤ k) × (k < n + (numbers_of e + numbers_in es))) (entry_request n e) (requests_from (n + numbers_of e) es)
    (wider n (n + (numbers_of e + numbers_in es)) n (n + numbers_of e) (entry_request n e) (omega arith) (omega arith) (entry-bounds n e))
    (wider n (n + (numbers_of e + numbers_in es)) (n + numbers_of e) (n + numbers_of e + numbers_in es) (requests_from (n + numbers_of e) es) (omega arith) (omega arith) (entries-bounds (n + numbers_of e) es))

unit-bounds : (n : ℕ) (u : SeenUnit) → All (λ k. (n ≤ k) × (k < n + unit_numbers u)) (unit_requests n u)
unit-bounds n unreadable = All-nil (λ k. (n ≤ k) × (k < n + 0))
unit-bounds n (single e) = wider n (n + (numbers_of e + 0)) n (n + numbers_of e) (entry_request n e) (omega arith) (omega arith) (entry-bounds n e)
unit-bounds n (batch es) = entries-bounds n es

pub requests-bounds : (n : ℕ) (us : List SeenUnit) → All (λ k. (n ≤ k) × (k < n + units_numbers us)) (requests_of n us)
requests-bounds n [] = All-nil (λ k. (n ≤ k) × (k < n + 0))
requests-bounds n (u ∷ us) =
    All-append (λ k. (n ≤ k) × (k < n + (unit_numbers u + units_numbers us))) (unit_requests n u) (requests_of (n + unit_numbers u) us)
    (wider n (n + (unit_numbers u + units_numbers us)) n (n + unit_numbers u) (unit_requests n u) (omega arith) (omega arith) (unit-bounds n u))
    (wider n (n + (unit_numbers u + units_numbers us)) (n + unit_numbers u) (n + unit_numbers u + units_numbers us) (requests_of (n + unit_numbers u) us) (omega arith) (omega arith) (requests-bounds (n + unit_numbers u) us))

there : {A : Type 0} (xs : List A) (i : ℕ) → i < length xs → (x : A) × (slice_get xs i ≡ Some x)
there [] i h = absurd (omega arith)
there (x ∷ xs) zero h = (x, refl)
there (x ∷ xs) (suc i) h = there xs i (omega arith)

-- a number that was given is a call's
pub call-there : (es : List SeenEntry) (n : ℕ) → 1 ≤ n → n ≤ numbers_in es → (c : Call) × (call_numbered n es ≡ Some c)
call-there es zero h k = absurd (omega arith)
call-there es (suc n) h k = there (calls_in es) n (omega (arith, length-calls_in es))

-- ---- every call is at fault

fault_if : (b : Bool) → cond b (fault MethodNotFound) (fault MethodNotFound) ≡ fault MethodNotFound
fault_if true = refl
fault_if false = refl

call-fault : (c : Call) → work_for no_methods (Some c) ≡ fault MethodNotFound
call-fault c = fault_if (is_protocol_method c.method)

given-answer : (entries : List SeenEntry) (n : ℕ) → 1 ≤ n → n ≤ numbers_in entries → (course no_methods entries n).answer ≡ Fixed MethodNotFound
given-answer entries zero h k = absurd (omega arith)
given-answer entries (suc n) h k =
    let there_is = call-there entries (suc n) h k in
    ap (λ w. (course_of (replies entries (suc n)) w).answer) (ap (work_for no_methods) there_is.1 ∙ call-fault there_is.0)

silent-call : (entries : List SeenEntry) (n : ℕ) (c : Option Call) → (course_of (replies entries n) (work_for no_methods c)).sends ≡ []
silent-call entries n None = refl
silent-call entries n (Some c) = ap (λ w. (course_of (replies entries n) w).sends) (call-fault c)

nothing-sent : (entries : List SeenEntry) (n : ℕ) → (course no_methods entries n).sends ≡ []
nothing-sent entries zero = refl
nothing-sent entries (suc n) = silent-call entries (suc n) (call_numbered (suc n) entries)

not_run : (w : Work) (p : Program) → w ≡ fault MethodNotFound → w ≡ run p → ⊥
not_run w p h k = let same : fault MethodNotFound ≡ run p = sym h ∙ k in cc

no-run_for : (c : Option Call) (p : Program) → work_for no_methods c ≡ run p → ⊥
no-run_for None p h = cc
no-run_for (Some c) p h = not_run (work_for no_methods (Some c)) p (call-fault c) h

no-run : (entries : List SeenEntry) (n : ℕ) (p : Program) → work no_methods entries n ≡ run p → ⊥
no-run entries zero p h = cc
no-run entries (suc n) p h = no-run_for (call_numbered (suc n) entries) p h

-- ---- the output

module _ (units : List SeenUnit) where
  same-answers : dues (λ n. Fixed MethodNotFound) 1 units ≡ dues (λ n. (course no_methods (entries_along units) n).answer) 1 units
  same-answers = dues-same (λ n. Fixed MethodNotFound) (λ n. (course no_methods (entries_along units) n).answer) 1 units
      (all-mapped (λ k. (1 ≤ k) × (k < 1 + units_numbers units)) (λ k. Fixed MethodNotFound ≡ (course no_methods (entries_along units) k).answer) (requests_of 1 units)
      (λ k b. sym (given-answer (entries_along units) k b.0 (let last = b.1 in omega (arith, numbers_in-entries_along units)))) (requests-bounds 1 units))

  none-before : (answers : List Due) (n : ℕ) (before after : List Item) (due : Due) → map answered answers ≡ before ++ answered due ∷ after → sent_by n before ≡ []
  none-before answers n before after due split =
      begins-empty (sent_by n before) (record { rest = sent_by n after; joined = sym (silent-answers n answers) ∙ ap (sent_by n) split ∙ sent_by-append n before (answered due ∷ after) })

  pub plain-output : IsOutput no_methods units (map answered (dues (λ n. Fixed MethodNotFound) 1 units))
  plain-output = record {
    choice = course no_methods (entries_along units);
    lawful = λ n. inl refl;
    output = record {
      answers = answers-answered (dues (λ n. Fixed MethodNotFound) 1 units) ∙ same-answers;
      sendings = λ n. silent-answers n (dues (λ n. Fixed MethodNotFound) 1 units) ∙ sym (nothing-sent (entries_along units) n);
      order = λ before after due split k n lt. none-before (dues (λ n. Fixed MethodNotFound) 1 units) _ before after due split ∙ sym (nothing-sent (entries_along units) _);
    };
  }

  none-cancelled : (n : ℕ) (c : Course) → IsCancelledCourse no_methods (entries_along units) n c → ⊥
  none-cancelled n c h = no-run (entries_along units) n h.program h.runs

  pub plain-parts : (items : List Item) → IsOutput no_methods units items → (answers_in items ≡ dues (λ n. Fixed MethodNotFound) 1 units) × ((n : ℕ) → sent_by n items ≡ [])
  plain-parts items h =
      let same = parts-determined no_methods units none-cancelled items (map answered (dues (λ n. Fixed MethodNotFound) 1 units)) h plain-output in
      (same.0 ∙ answers-answered (dues (λ n. Fixed MethodNotFound) 1 units), λ n. same.1 n ∙ silent-answers n (dues (λ n. Fixed MethodNotFound) 1 units))
