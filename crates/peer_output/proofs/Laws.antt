-- Outputs and partial outputs.
use Rattle.std.proofs.Common.{◌≡◌, ◌↔◌, ℕ, ◌==◌, List, [], ◌∷◌, ◌++◌, All, Bool, true, false, ◌⊎◌, inl, inr, refl, sym, ap, subst, ◌∙◌, append_assoc, append-nil}
use Rattle.std.proofs.lemmas.List.{append_cancel_left}
use Rattle.std.specs.Cmp.{unsigned_Decides}
use Rattle.rpc_messages.specs.Dues.{Due}
use Rattle.rpc_messages.specs.Replies.{entries_along}
use Rattle.rpc_messages.specs.Unit.{SeenUnit}
use Rattle.method_steps.specs.Steps.{MethodTable}
use Rattle.peer_output.specs.Course.{Sending, Course, course}
use Rattle.peer_output.specs.Cancelled.{Begins, IsCancelledCourse, MayTake}
use Rattle.peer_output.specs.Items.{Item, sent, answered, sent_by, answers_in}
use Rattle.peer_output.specs.Output.{Choice, due_answers, AnswersFollow, IsOutputOf, IsPartialOutputOf, IsOutput, IsPartialOutput}
use Rattle.peer_output.proofs.Fronts.{begins-nothing, begins-same, begins-front}
use Rattle.peer_output.proofs.Parts.{sent_by-append, answers_in-append, sent_by-push, sent_by-push_other, sent_by-push_answer, answers_in-push_sent, answers_in-push}
use Rattle.peer_output.proofs.Splits.{IsLast, IsEarlier, split-push}

-- ---- elements

pub all-mapped : {X : Type 0} (P Q : X → Type 0) (xs : List X) → ((x : X) → P x → Q x) → All P xs → All Q xs
all-mapped P Q xs f h k d lt = f _ (h k d lt)

-- ---- nothing

pub not_nothing : {A : Type 0} (before after : List A) (here : A) → [] ≡ before ++ here ∷ after → ⊥
not_nothing [] after here h = cc
not_nothing (b ∷ before) after here h = cc

pub nothing-partial : (table : MethodTable) (units : List SeenUnit) → IsPartialOutput table units []
nothing-partial table units = record {
  choice = course table (entries_along units);
  lawful = λ n. inl refl;
  output = record {
    answers = begins-nothing _;
    sendings = λ n. begins-nothing _;
    order = λ before after due h. absurd (not_nothing before after (answered due) h);
  };
}

-- ---- outputs are partial, and the other way round

pub output-partial : (choice : Choice) (units : List SeenUnit) (items : List Item) → IsOutputOf choice units items → IsPartialOutputOf choice units items
output-partial choice units items h = record {
  answers = begins-same (answers_in items) (due_answers choice units) h.answers;
  sendings = λ n. begins-same (sent_by n items) (choice n).sends (h.sendings n);
  order = h.order;
}

pub output-is_partial : (table : MethodTable) (units : List SeenUnit) (items : List Item) → IsOutput table units items → IsPartialOutput table units items
output-is_partial table units items h = record { choice = h.choice; lawful = h.lawful; output = output-partial h.choice units items h.output }

pub partial-whole : (choice : Choice) (units : List SeenUnit) (items : List Item) → IsPartialOutputOf choice units items
    → answers_in items ≡ due_answers choice units → ((n : ℕ) → sent_by n items ≡ (choice n).sends) → IsOutputOf choice units items
partial-whole choice units items h answers sendings = record { answers = answers; sendings = sendings; order = h.order }

-- ---- fronts

pub follow-front : (choice : Choice) (front rest : List Item) → AnswersFollow choice (front ++ rest) → AnswersFollow choice front
follow-front choice front rest h before after due split =
    h before (after ++ rest) due (ap (λ l. l ++ rest) split ∙ append_assoc before (answered due ∷ after) rest)

pub partial-front : (choice : Choice) (units : List SeenUnit) (front rest : List Item) → IsPartialOutputOf choice units (front ++ rest) → IsPartialOutputOf choice units front
partial-front choice units front rest h = record {
  answers = begins-front (answers_in front) (answers_in rest) _ (subst (λ l. Begins l (due_answers choice units)) (answers_in-append front rest) h.answers);
  sendings = λ n. begins-front (sent_by n front) (sent_by n rest) _ (subst (λ l. Begins l (choice n).sends) (sent_by-append n front rest) (h.sendings n));
  order = follow-front choice front rest h.order;
}

-- ---- without cancels

same_course : (table : MethodTable) (units : List SeenUnit) (none : (n : ℕ) (c : Course) → IsCancelledCourse table (entries_along units) n c → ⊥)
    (n : ℕ) (c : Course) → MayTake table (entries_along units) n c → c ≡ course table (entries_along units) n
same_course table units none n c (inl same) = same
same_course table units none n c (inr cut) = absurd (none n c cut)

module _ (table : MethodTable) (units : List SeenUnit) (none : (n : ℕ) (c : Course) → IsCancelledCourse table (entries_along units) n c → ⊥) where
  pub the_answers : (items : List Item) → IsOutput table units items → answers_in items ≡ due_answers (course table (entries_along units)) units
  the_answers items h = h.output.answers ∙ (λ i. due_answers (λ n. same_course table units none n (h.choice n) (h.lawful n) i) units)

  pub the_sendings : (items : List Item) → IsOutput table units items → (n : ℕ) → sent_by n items ≡ (course table (entries_along units) n).sends
  the_sendings items h n = h.output.sendings n ∙ ap (λ (c : Course). c.sends) (same_course table units none n (h.choice n) (h.lawful n))

  pub parts-determined : (these others : List Item) → IsOutput table units these → IsOutput table units others
      → (answers_in these ≡ answers_in others) × ((n : ℕ) → sent_by n these ≡ sent_by n others)
  parts-determined these others h k = (the_answers these h ∙ sym (the_answers others k), λ n. the_sendings these h n ∙ sym (the_sendings others k n))

-- ---- behind an answer

nothing_more : {A : Type 0} (xs ys : List A) → xs ++ ys ≡ xs → ys ≡ []
nothing_more xs ys h = append_cancel_left xs ys [] (h ∙ sym (append-nil xs))

module _ (choice : Choice) (items : List Item) (sendings : (n : ℕ) → sent_by n items ≡ (choice n).sends) where
  around : (n : ℕ) (before after : List Item) (due : Due) → items ≡ before ++ answered due ∷ after → sent_by n before ++ sent_by n after ≡ (choice n).sends
  around n before after due split = sym (sent_by-append n before (answered due ∷ after)) ∙ ap (sent_by n) (sym split) ∙ sendings n

  pub behind-answers : AnswersFollow choice items ↔ ((before after : List Item) (due : Due) → items ≡ before ++ answered due ∷ after → All (λ n. sent_by n after ≡ []) due.requests)
  behind-answers = (
    (λ follow before after due split.
        all-mapped (λ n. sent_by n before ≡ (choice n).sends) (λ n. sent_by n after ≡ []) due.requests
        (λ n all. nothing_more (sent_by n before) (sent_by n after) (around n before after due split ∙ sym all)) (follow before after due split)),
    (λ behind before after due split.
        all-mapped (λ n. sent_by n after ≡ []) (λ n. sent_by n before ≡ (choice n).sends) due.requests
        (λ n none. sym (append-nil (sent_by n before)) ∙ ap (λ l. sent_by n before ++ l) (sym none) ∙ around n before after due split) (behind before after due split)),
  )

-- ---- one more item

pub no_answer : (n : ℕ) (s : Sending) (due : Due) → answered due ≡ sent n s → ⊥
no_answer n s due h = cc

pub same_due : (due next : Due) → answered due ≡ answered next → due ≡ next
same_due due next h = cc

pub follow-push_sent : (choice : Choice) (items : List Item) (n : ℕ) (s : Sending) → AnswersFollow choice items → AnswersFollow choice (items ++ sent n s ∷ [])
follow-push_sent choice items n s h before after due split = by_place (split-push items before after (sent n s) (answered due) split)
  where
    by_place : IsLast items before after (sent n s) (answered due) ⊎ IsEarlier items before (answered due) → All (λ n. sent_by n before ≡ (choice n).sends) due.requests
    by_place (inl last) = absurd (no_answer n s due last.same)
    by_place (inr place) = h before place.after due place.joined

pub follow-push_answer : (choice : Choice) (items : List Item) (next : Due) → AnswersFollow choice items → All (λ n. sent_by n items ≡ (choice n).sends) next.requests
    → AnswersFollow choice (items ++ answered next ∷ [])
follow-push_answer choice items next h all before after due split = by_place (split-push items before after (answered next) (answered due) split)
  where
    by_place : IsLast items before after (answered next) (answered due) ⊎ IsEarlier items before (answered due) → All (λ n. sent_by n before ≡ (choice n).sends) due.requests
    by_place (inl last) =
        subst (λ (d : Due). All (λ n. sent_by n before ≡ (choice n).sends) d.requests) (sym (same_due due next last.same))
        (subst (λ l. All (λ n. sent_by n l ≡ (choice n).sends) next.requests) (sym last.all) all)
    by_place (inr place) = h before place.after due place.joined

pub pushed_sendings : (n m : ℕ) (s : Sending) (items : List Item) (whole : List Sending) (b : Bool) → (m == n) ≡ b
    → Begins (sent_by n items) whole → (m ≡ n → Begins (sent_by n items ++ s ∷ []) whole) → Begins (sent_by n (items ++ sent m s ∷ [])) whole
pushed_sendings n m s items whole false is h next = subst (λ l. Begins l whole) (sym (sent_by-push_other n m items s is)) h
pushed_sendings n m s items whole true is h next =
    let same : m ≡ n = (unsigned_Decides m n).0 is in
    subst (λ k. Begins (sent_by n (items ++ sent k s ∷ [])) whole) (sym same) (subst (λ l. Begins l whole) (sym (sent_by-push n items s)) (next same))

pub partial-push_sent : (choice : Choice) (units : List SeenUnit) (items : List Item) (n : ℕ) (s : Sending) → IsPartialOutputOf choice units items
    → Begins (sent_by n items ++ s ∷ []) (choice n).sends → IsPartialOutputOf choice units (items ++ sent n s ∷ [])
partial-push_sent choice units items n s h next = record {
  answers = subst (λ l. Begins l (due_answers choice units)) (sym (answers_in-push_sent n items s)) h.answers;
  sendings = λ m. pushed_sendings m n s items (choice m).sends (n == m) refl (h.sendings m) (λ same. subst (λ k. Begins (sent_by k items ++ s ∷ []) (choice k).sends) same next);
  order = follow-push_sent choice items n s h.order;
}

pub partial-push_answer : (choice : Choice) (units : List SeenUnit) (items : List Item) (due : Due) → IsPartialOutputOf choice units items
    → Begins (answers_in items ++ due ∷ []) (due_answers choice units) → All (λ n. sent_by n items ≡ (choice n).sends) due.requests
    → IsPartialOutputOf choice units (items ++ answered due ∷ [])
partial-push_answer choice units items due h next all = record {
  answers = subst (λ l. Begins l (due_answers choice units)) (sym (answers_in-push items due)) next;
  sendings = λ n. subst (λ l. Begins l (choice n).sends) (sym (sent_by-push_answer n items due)) (h.sendings n);
  order = follow-push_answer choice items due h.order all;
}
