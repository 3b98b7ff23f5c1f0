-- What stands after each event, and what a past has written.
use Rattle.std.proofs.Common.{◌≡◌, ℕ, ◌+◌, ◌==◌, ◌<◌, ◌≤◌, List, [], ◌∷◌, ◌++◌, map, All, Bool, true, false, cond, Option, Some, None, unwrap_or, ◌⊎◌, inl, inr, refl, sym, ap, subst, ◌∙◌, append_assoc, append-nil, arith}
use Rattle.std.proofs.lemmas.List.Elements.{All-nil, All-append, All-head, All-tail, All-cons}
use Rattle.std.specs.Cmp.{unsigned_Decides}
use Rattle.rpc_messages.specs.declared.reply.Reply.{Reply}
use Rattle.rpc_messages.specs.Dues.{Due, dues, due_if, unit_dues, unit_requests, unit_kind, unit_text, unit_answers}
use Rattle.rpc_messages.specs.Entry.{SeenEntry}
use Rattle.rpc_messages.specs.Numbering.{unit_numbers, units_numbers}
use Rattle.rpc_messages.specs.Replies.{entries_along, replies}
use Rattle.rpc_messages.specs.Unit.{SeenUnit}
use Rattle.rpc_messages.proofs.Stream.{entries_along-append}
use Rattle.method_steps.specs.Steps.{MethodTable}
use Rattle.peer_output.specs.Work.{nothing, work}
use Rattle.peer_output.specs.Course.{Sending, Course, course, course_of}
use Rattle.peer_output.specs.Cancelled.{Begins, MayTake}
use Rattle.peer_output.specs.Items.{Item, sent, answered, sent_by, answers_in}
use Rattle.peer_output.specs.Output.{Choice, due_answers, IsOutput, IsPartialOutput, IsPartialOutputOf}
use Rattle.peer_output.specs.Later.{MayBecome, IsUnderWay, IsFinished}
use Rattle.peer_output.specs.Past.{Past, past_units, past_entries, requests_of, NumberStands, IsAllSent, answer_of, IsPast}
use Rattle.peer_output.specs.Events.{no_past, with_at, with_units, with_sends, with_course, with_sent, with_released}
use Rattle.peer_output.proofs.Fronts.{begins-nothing, begins-itself, begins-on, begins-same, begins-empty}
use Rattle.peer_output.proofs.Parts.{answers_in-append, answers_in-push_sent, sent_by-push_answer, sent_by-append}
use Rattle.peer_output.proofs.Splits.{IsLast, IsEarlier, split-push}
use Rattle.peer_output.proofs.Dues.{all-left, all-right, dues-append, requests_of-append, units_numbers-append, dues-same}
use Rattle.peer_output.proofs.Streams.{becomes-longer}
use Rattle.peer_output.proofs.Numbers.{under_way-longer, finished-longer, nothing-under_way}
use Rattle.peer_output.proofs.Laws.{all-mapped, not_nothing, no_answer, same_due, pushed_sendings, partial-whole}

-- ---- at the start

pub start-past : (table : MethodTable) → IsPast table false no_past
start-past table = record {
  numbers = λ n. nothing-under_way table false [] n;
  later = λ n h. (refl, refl);
  written = λ n. begins-nothing [];
  answers = refl;
  finished = All-nil _;
  order = λ before after due split. absurd (not_nothing before after (answered due) split);
}

-- ---- units come, and the input ends

stands-longer : (table : MethodTable) (is_over : Bool) (entries longer : List SeenEntry) (n : ℕ) (sends : List Sending) (took : Option Course) → Begins entries longer
    → NumberStands table false entries n sends took → NumberStands table is_over longer n sends took
stands-longer table is_over entries longer n sends None b h = under_way-longer table is_over entries longer n sends b h
stands-longer table is_over entries longer n sends (Some c) b h = (h.0, finished-longer table is_over entries longer n c b h.1)

entries-more : (past : Past) (units : List SeenUnit) → Begins (past_entries past) (past_entries (with_units past units))
entries-more past units = record {
  rest = entries_along units;
  joined = ap entries_along (sym (append_assoc past.released past.left units)) ∙ entries_along-append (past_units past) units;
}

numbers-more : (past : Past) (units : List SeenUnit) → units_numbers (past_units (with_units past units)) ≡ units_numbers (past_units past) + units_numbers units
numbers-more past units = ap units_numbers (sym (append_assoc past.released past.left units)) ∙ units_numbers-append (past_units past) units

pub units-past : (table : MethodTable) (past : Past) (units : List SeenUnit) → IsPast table false past → IsPast table false (with_units past units)
units-past table past units h = record {
  numbers = λ n. stands-longer table false (past_entries past) (past_entries (with_units past units)) n (past.sends n) (past.took n) (entries-more past units) (h.numbers n);
  later = λ n lt. h.later n (omega (arith, numbers-more past units, lt));
  written = h.written;
  answers = h.answers;
  finished = h.finished;
  order = h.order;
}

pub end-past : (table : MethodTable) (past : Past) → IsPast table false past → IsPast table true past
end-past table past h = record {
  numbers = λ n. stands-longer table true (past_entries past) (past_entries past) n (past.sends n) (past.took n) (begins-itself (past_entries past)) (h.numbers n);
  later = h.later;
  written = h.written;
  answers = h.answers;
  finished = h.finished;
  order = h.order;
}

-- ---- a number sends

module _ (table : MethodTable) (is_over : Bool) (past : Past) (h : IsPast table is_over past) (n : ℕ) (known : n ≤ units_numbers (past_units past)) (open_yet : past.took n ≡ None) where
  not_later : (m : ℕ) → units_numbers (past_units past) < m → (n == m) ≡ true → ⊥
  not_later m lt is = let same : n ≡ m = (unsigned_Decides n m).0 is in omega (arith, known, lt, same)

  sends-later : (sends : List Sending) (m : ℕ) (b : Bool) → (n == m) ≡ b → units_numbers (past_units past) < m → cond b sends (past.sends m) ≡ []
  sends-later sends m true is lt = absurd (not_later m lt is)
  sends-later sends m false is lt = (h.later m lt).0

  sends-written : (sends : List Sending) → Begins (past.sends n) sends → (m : ℕ) (b : Bool) → (n == m) ≡ b → Begins (sent_by m past.items) (cond b sends (past.sends m))
  sends-written sends more m true is =
      let same : n ≡ m = (unsigned_Decides n m).0 is in
      subst (λ k. Begins (sent_by k past.items) sends) same (begins-on (sent_by n past.items) (past.sends n) sends (h.written n) more)
  sends-written sends more m false is = h.written m

  sends-stand : (sends : List Sending) → IsUnderWay table is_over (past_entries past) n sends → (m : ℕ) (b : Bool) → (n == m) ≡ b
      → NumberStands table is_over (past_entries past) m (cond b sends (past.sends m)) (past.took m)
  sends-stand sends under_way m true is =
      let same : n ≡ m = (unsigned_Decides n m).0 is in
      subst (λ k. NumberStands table is_over (past_entries past) k sends (past.took k)) same
      (subst (NumberStands table is_over (past_entries past) n sends) (sym open_yet) under_way)
  sends-stand sends under_way m false is = h.numbers m

  pub sends-past : (sends : List Sending) → Begins (past.sends n) sends → IsUnderWay table is_over (past_entries past) n sends → IsPast table is_over (with_sends past n sends)
  sends-past sends more under_way = record {
    numbers = λ m. sends-stand sends under_way m (n == m) refl;
    later = λ m lt. (sends-later sends m (n == m) refl lt, (h.later m lt).1);
    written = λ m. sends-written sends more m (n == m) refl;
    answers = h.answers;
    finished = h.finished;
    order = h.order;
  }

  -- ---- and is finished

  course-later : (c : Course) (m : ℕ) (b : Bool) → (n == m) ≡ b → units_numbers (past_units past) < m → cond b (Some c) (past.took m) ≡ None
  course-later c m true is lt = absurd (not_later m lt is)
  course-later c m false is lt = (h.later m lt).1

  course-stands : (c : Course) → IsFinished table is_over (past_entries past) n c → (m : ℕ) (b : Bool) → (n == m) ≡ b
      → NumberStands table is_over (past_entries past) m (cond b c.sends (past.sends m)) (cond b (Some c) (past.took m))
  course-stands c finished m true is =
      let same : n ≡ m = (unsigned_Decides n m).0 is in
      (refl, subst (λ k. IsFinished table is_over (past_entries past) k c) same finished)
  course-stands c finished m false is = h.numbers m

  kept_if : (c d : Course) (m : ℕ) (b : Bool) → (n == m) ≡ b → past.took m ≡ Some d → cond b (Some c) (past.took m) ≡ past.took m
  kept_if c d m true is took = let same : n ≡ m = (unsigned_Decides n m).0 is in let none : past.took m ≡ None = ap past.took (sym same) ∙ open_yet in cc
  kept_if c d m false is took = refl

  -- what is finished stays
  took-kept : (c d : Course) (m : ℕ) → past.took m ≡ Some d → with_at n (Some c) past.took m ≡ past.took m
  took-kept c d m took = kept_if c d m (n == m) refl took

  pub course-past : (c : Course) → Begins (past.sends n) c.sends → IsFinished table is_over (past_entries past) n c → IsPast table is_over (with_course past n c)
  course-past c more finished = record {
    numbers = λ m. course-stands c finished m (n == m) refl;
    later = λ m lt. (sends-later c.sends m (n == m) refl lt, course-later c m (n == m) refl lt);
    written = λ m. sends-written c.sends more m (n == m) refl;
    answers = h.answers ∙ dues-same (λ m. answer_of (past.took m)) (λ m. answer_of (with_at n (Some c) past.took m)) 1 past.released
        (all-mapped (λ m. (d : Course) × (past.took m ≡ Some d)) (λ m. answer_of (past.took m) ≡ answer_of (with_at n (Some c) past.took m)) (requests_of 1 past.released)
        (λ m f. ap answer_of (sym (took-kept c f.0 m f.1))) h.finished);
    finished = all-mapped (λ m. (d : Course) × (past.took m ≡ Some d)) (λ m. (d : Course) × (with_at n (Some c) past.took m ≡ Some d)) (requests_of 1 past.released)
        (λ m f. (f.0, took-kept c f.0 m f.1 ∙ f.1)) h.finished;
    order = λ before after due split. all-mapped (IsAllSent past.took before) (IsAllSent (with_at n (Some c) past.took) before) due.requests
        (λ m a. record { course = a.course; finished = took-kept c a.course m a.finished ∙ a.finished; all = a.all }) (h.order before after due split);
  }

-- ---- a sending is written

Orders : (ℕ → Option Course) → List Item → Type 0
Orders took items = (before after : List Item) (due : Due) → items ≡ before ++ answered due ∷ after → All (IsAllSent took before) due.requests

order-push_sent : (took : ℕ → Option Course) (items : List Item) (n : ℕ) (s : Sending) → Orders took items → Orders took (items ++ sent n s ∷ [])
unfolding Orders
order-push_sent took items n s h before after due split = by_place (split-push items before after (sent n s) (answered due) split)
  where
    by_place : IsLast items before after (sent n s) (answered due) ⊎ IsEarlier items before (answered due) → All (IsAllSent took before) due.requests
    by_place (inl last) = absurd (no_answer n s due last.same)
    by_place (inr place) = h before place.after due place.joined

pub sent-past : (table : MethodTable) (is_over : Bool) (past : Past) (n : ℕ) (s : Sending) → IsPast table is_over past
    → Begins (sent_by n past.items ++ s ∷ []) (past.sends n) → IsPast table is_over (with_sent past n s)
unfolding Orders
sent-past table is_over past n s h next = record {
  numbers = h.numbers;
  later = h.later;
  written = λ m. pushed_sendings m n s past.items (past.sends m) (n == m) refl (h.written m) (λ same. subst (λ k. Begins (sent_by k past.items ++ s ∷ []) (past.sends k)) same next);
  answers = answers_in-push_sent n past.items s ∙ h.answers;
  finished = h.finished;
  order = order-push_sent past.took past.items n s h.order;
}

-- ---- answers are written

order-push_answer : (took : ℕ → Option Course) (items : List Item) (next : Due) → Orders took items → All (IsAllSent took items) next.requests → Orders took (items ++ answered next ∷ [])
unfolding Orders
order-push_answer took items next h all before after due split = by_place (split-push items before after (answered next) (answered due) split)
  where
    by_place : IsLast items before after (answered next) (answered due) ⊎ IsEarlier items before (answered due) → All (IsAllSent took before) due.requests
    by_place (inl last) =
        subst (λ (d : Due). All (IsAllSent took before) d.requests) (sym (same_due due next last.same))
        (subst (λ l. All (IsAllSent took l) next.requests) (sym last.all) all)
    by_place (inr place) = h before place.after due place.joined

still-sent : (took : ℕ → Option Course) (items : List Item) (due : Due) (n : ℕ) → IsAllSent took items n → IsAllSent took (items ++ answered due ∷ []) n
still-sent took items due n a = record { course = a.course; finished = a.finished; all = sent_by-push_answer n items due ∙ a.all }

order-answers : (took : ℕ → Option Course) (items : List Item) (answers : List Due) → Orders took items → All (λ (d : Due). All (IsAllSent took items) d.requests) answers
    → Orders took (items ++ map answered answers)
order-answers took items [] h all = subst (Orders took) (sym (append-nil items)) h
order-answers took items (due ∷ answers) h all =
    subst (Orders took) (append_assoc items (answered due ∷ []) (map answered answers))
    (order-answers took (items ++ answered due ∷ []) answers (order-push_answer took items due h (All-head (λ (d : Due). All (IsAllSent took items) d.requests) due answers all))
    (all-mapped (λ (d : Due). All (IsAllSent took items) d.requests) (λ (d : Due). All (IsAllSent took (items ++ answered due ∷ [])) d.requests) answers
    (λ d a. all-mapped (IsAllSent took items) (IsAllSent took (items ++ answered due ∷ [])) d.requests (λ n s. still-sent took items due n s) a)
    (All-tail (λ (d : Due). All (IsAllSent took items) d.requests) due answers all)))

pub answers-answered : (answers : List Due) → answers_in (map answered answers) ≡ answers
answers-answered [] = refl
answers-answered (due ∷ answers) = ap (λ l. due ∷ l) (answers-answered answers)

pub silent-answers : (n : ℕ) (answers : List Due) → sent_by n (map answered answers) ≡ []
silent-answers n [] = refl
silent-answers n (due ∷ answers) = silent-answers n answers

-- the requests of what is due to units are the units' requests
module _ (P : ℕ → Type 0) (choice : ℕ → Reply) where
  due-requests_if : (requests : List ℕ) (text : Option (List ℕ)) → All P requests → All (λ (d : Due). All P d.requests) (due_if requests text)
  due-requests_if requests None h = All-nil (λ (d : Due). All P d.requests)
  due-requests_if requests (Some text) h = All-cons (λ (d : Due). All P d.requests) (record { requests = requests; text = text }) [] h (All-nil (λ (d : Due). All P d.requests))

  due-requests : (n : ℕ) (us : List SeenUnit) → All P (requests_of n us) → All (λ (d : Due). All P d.requests) (dues choice n us)
  due-requests n [] h = All-nil (λ (d : Due). All P d.requests)
  due-requests n (u ∷ us) h =
      All-append (λ (d : Due). All P d.requests) (unit_dues choice n u) (dues choice (n + unit_numbers u) us)
      (due-requests_if (unit_requests n u) (unit_text (unit_kind u) (unit_answers choice n u)) (all-left P (unit_requests n u) (requests_of (n + unit_numbers u) us) h))
      (due-requests (n + unit_numbers u) us (all-right P (unit_requests n u) (requests_of (n + unit_numbers u) us) h))

module _ (table : MethodTable) (is_over : Bool) (past : Past) (h : IsPast table is_over past) (units left : List SeenUnit) (next : past.left ≡ units ++ left)
    (all : All (IsAllSent past.took past.items) (requests_of (1 + units_numbers past.released) units)) where
  answers_due : List Due
  answers_due = dues (λ n. answer_of (past.took n)) (1 + units_numbers past.released) units

  same-units : (past.released ++ units) ++ left ≡ past_units past
  same-units = append_assoc past.released units left ∙ ap (λ l. past.released ++ l) (sym next)

  pub released-past : IsPast table is_over (with_released past units left)
  unfolding Orders answers_due
  released-past = record {
    numbers = λ n. subst (λ us. NumberStands table is_over (entries_along us) n (past.sends n) (past.took n)) (sym same-units) (h.numbers n);
    later = λ n lt. h.later n (subst (λ us. units_numbers us < n) same-units lt);
    written = λ n. subst (λ l. Begins l (past.sends n))
        (sym (append-nil (sent_by n past.items)) ∙ ap (λ l. sent_by n past.items ++ l) (sym (silent-answers n answers_due)) ∙ sym (sent_by-append n past.items (map answered answers_due))) (h.written n);
    answers = answers_in-append past.items (map answered answers_due) ∙ ap (λ l. answers_in past.items ++ l) (answers-answered answers_due)
        ∙ ap (λ l. l ++ answers_due) h.answers ∙ sym (dues-append (λ n. answer_of (past.took n)) 1 past.released units);
    finished = subst (All (λ n. (c : Course) × (past.took n ≡ Some c))) (sym (requests_of-append 1 past.released units))
        (All-append (λ n. (c : Course) × (past.took n ≡ Some c)) (requests_of 1 past.released) (requests_of (1 + units_numbers past.released) units) h.finished
        (all-mapped (IsAllSent past.took past.items) (λ n. (c : Course) × (past.took n ≡ Some c)) (requests_of (1 + units_numbers past.released) units) (λ n a. (a.course, a.finished)) all));
    order = order-answers past.took past.items answers_due h.order (due-requests (IsAllSent past.took past.items) (λ n. answer_of (past.took n)) (1 + units_numbers past.released) units all);
  }

-- ---- what a past has written

-- each number's course, where it is finished, and else its whole course
choice_of : MethodTable → List SeenEntry → (ℕ → Option Course) → Choice
choice_of table later took n = unwrap_or (took n) (course table later n)

entries-become : (is_over : Bool) (so_far later : List SeenUnit) → MayBecome is_over so_far later → MayBecome is_over (entries_along so_far) (entries_along later)
entries-become true so_far later h = ap entries_along h
entries-become false so_far later h = record { rest = entries_along h.rest; joined = ap entries_along h.joined ∙ entries_along-append so_far h.rest }

taken-lawful : (table : MethodTable) (is_over : Bool) (entries later : List SeenEntry) (n : ℕ) (sends : List Sending) (took : Option Course) → MayBecome is_over entries later
    → NumberStands table is_over entries n sends took → MayTake table later n (unwrap_or took (course table later n))
taken-lawful table is_over entries later n sends None becomes h = inl refl
taken-lawful table is_over entries later n sends (Some c) becomes h = h.1 later becomes

taken-begins : (table : MethodTable) (is_over : Bool) (entries later : List SeenEntry) (n : ℕ) (sends : List Sending) (took : Option Course) → MayBecome is_over entries later
    → NumberStands table is_over entries n sends took → Begins sends (unwrap_or took (course table later n)).sends
taken-begins table is_over entries later n sends None becomes h = h later becomes
taken-begins table is_over entries later n sends (Some c) becomes h = begins-same sends c.sends h.0

module _ (table : MethodTable) (is_over : Bool) (past : Past) (h : IsPast table is_over past) (later : List SeenUnit) (becomes : MayBecome is_over (past_units past) later) where
  taken-choice : (n : ℕ) (c : Course) → past.took n ≡ Some c → choice_of table (entries_along later) past.took n ≡ c
  unfolding choice_of
  taken-choice n c took = ap (λ o. unwrap_or o (course table (entries_along later) n)) took

  answers-same : answers_in past.items ≡ dues (λ n. (choice_of table (entries_along later) past.took n).answer) 1 past.released
  answers-same = h.answers ∙ dues-same (λ n. answer_of (past.took n)) (λ n. (choice_of table (entries_along later) past.took n).answer) 1 past.released
      (all-mapped (λ n. (c : Course) × (past.took n ≡ Some c)) (λ n. answer_of (past.took n) ≡ (choice_of table (entries_along later) past.took n).answer) (requests_of 1 past.released)
      (λ n f. ap answer_of f.1 ∙ ap (λ (c : Course). c.answer) (sym (taken-choice n f.0 f.1))) h.finished)

  answers-begin : Begins (answers_in past.items) (due_answers (choice_of table (entries_along later) past.took) later)
  answers-begin =
      let longer : Begins (past_units past) later = becomes-longer is_over (past_units past) later becomes in
      record {
        rest = dues (λ n. (choice_of table (entries_along later) past.took n).answer) (1 + units_numbers past.released) (past.left ++ longer.rest);
        joined = ap (dues (λ n. (choice_of table (entries_along later) past.took n).answer) 1) (longer.joined ∙ append_assoc past.released past.left longer.rest)
            ∙ dues-append (λ n. (choice_of table (entries_along later) past.took n).answer) 1 past.released (past.left ++ longer.rest)
            ∙ ap (λ l. l ++ dues (λ n. (choice_of table (entries_along later) past.took n).answer) (1 + units_numbers past.released) (past.left ++ longer.rest)) (sym answers-same);
      }

  past-partial_of : IsPartialOutputOf (choice_of table (entries_along later) past.took) later past.items
  unfolding choice_of
  past-partial_of = record {
    answers = answers-begin;
    sendings = λ n. begins-on (sent_by n past.items) (past.sends n) (choice_of table (entries_along later) past.took n).sends (h.written n)
        (taken-begins table is_over (past_entries past) (entries_along later) n (past.sends n) (past.took n) (entries-become is_over (past_units past) later becomes) (h.numbers n));
    order = λ before after due split. all-mapped (IsAllSent past.took before) (λ n. sent_by n before ≡ (choice_of table (entries_along later) past.took n).sends) due.requests
        (λ n a. a.all ∙ ap (λ (c : Course). c.sends) (sym (taken-choice n a.course a.finished))) (h.order before after due split);
  }

  past-lawful : (n : ℕ) → MayTake table (entries_along later) n (choice_of table (entries_along later) past.took n)
  unfolding choice_of
  past-lawful n = taken-lawful table is_over (past_entries past) (entries_along later) n (past.sends n) (past.took n) (entries-become is_over (past_units past) later becomes) (h.numbers n)

  pub past-partial : IsPartialOutput table later past.items
  past-partial = record { choice = choice_of table (entries_along later) past.took; lawful = past-lawful; output = past-partial_of }

-- ---- at the end

all-sent : (table : MethodTable) (entries : List SeenEntry) (n : ℕ) (sends : List Sending) (took : Option Course) → NumberStands table true entries n sends took
    → (took ≡ None → work table entries n ≡ nothing) → sends ≡ (unwrap_or took (course table entries n)).sends
all-sent table entries n sends None h over =
    let none : (course table entries n).sends ≡ [] = ap (λ w. (course_of (replies entries n) w).sends) (over refl) in
    begins-empty sends (subst (Begins sends) none (h entries refl)) ∙ sym none
all-sent table entries n sends (Some c) h over = h.0

pub past-output : (table : MethodTable) (past : Past) → IsPast table true past → past.left ≡ [] → ((n : ℕ) → sent_by n past.items ≡ past.sends n)
    → ((n : ℕ) → past.took n ≡ None → work table (past_entries past) n ≡ nothing) → IsOutput table (past_units past) past.items
unfolding choice_of
past-output table past h none written over = record {
  choice = choice_of table (past_entries past) past.took;
  lawful = past-lawful table true past h (past_units past) refl;
  output = partial-whole (choice_of table (past_entries past) past.took) (past_units past) past.items (past-partial_of table true past h (past_units past) refl)
      (answers-same table true past h (past_units past) refl
      ∙ ap (dues (λ n. (choice_of table (past_entries past) past.took n).answer) 1) (sym (append-nil past.released) ∙ ap (λ l. past.released ++ l) (sym none)))
      (λ n. written n ∙ all-sent table (past_entries past) n (past.sends n) (past.took n) (h.numbers n) (over n));
}
