-- How a worked row is shown: by computation up to the last number that was given, and by a lemma for all beyond.
use Rattle.std.proofs.Common.{◌≡◌, ℕ, zero, suc, ◌+◌, ◌==◌, ◌<◌, ◌≤◌, List, [], ◌∷◌, ◌++◌, length, get_or, map, Bool, true, false, cond, ◌&&◌, nat_lt, ◌⊎◌, inl, inr, refl, sym, ap, subst, ◌∙◌, append-nil, append_assoc, arith}
use Rattle.std.proofs.lemmas.Bool.{cases_lt, ltb-true}
use Rattle.std.proofs.lemmas.List.Elements.{All-from_recursion}
use Rattle.std.specs.Cmp.{unsigned_Decides}
use Rattle.std.specs.List.{AllByRecursion}
use Rattle.rpc_messages.specs.Entry.{SeenEntry}
use Rattle.rpc_messages.specs.Numbering.{numbers_in}
use Rattle.rpc_messages.specs.Replies.{entries_along, replies}
use Rattle.rpc_messages.specs.Unit.{SeenUnit, unit_of}
use Rattle.rpc_messages.proofs.Stream.{call_numbered-unknown}
use Rattle.method_steps.specs.Steps.{MethodTable}
use Rattle.peer_output.specs.Work.{work_for}
use Rattle.peer_output.specs.Course.{Sending, Course, course, course_of}
use Rattle.peer_output.specs.Cancelled.{MayTake}
use Rattle.peer_output.specs.Items.{Item, sent, answered, sent_by, answers_in, item_text}
use Rattle.peer_output.specs.Output.{Choice, due_answers, AnswersFollow, IsOutput}
use Rattle.peer_output.proofs.Laws.{follow-push_sent, follow-push_answer, not_nothing}

-- the units of contents, none of them foreign
abbrev pub contents : List (List ℕ) → List SeenUnit
contents texts = map (unit_of false) texts

abbrev pub texts_of : List Item → List (List ℕ)
texts_of items = map item_text items

-- ---- answers follow

abbrev pub Follows : Choice → List Item → List Item → Type 0
Follows choice before [] = Unit {0}
Follows choice before (sent n s ∷ items) = Follows choice (before ++ sent n s ∷ []) items
Follows choice before (answered due ∷ items) = AllByRecursion (λ n. sent_by n before ≡ (choice n).sends) due.requests × Follows choice (before ++ answered due ∷ []) items

follows : (choice : Choice) (before items : List Item) → AnswersFollow choice before → Follows choice before items → AnswersFollow choice (before ++ items)
follows choice before [] h f = subst (AnswersFollow choice) (sym (append-nil before)) h
follows choice before (sent n s ∷ items) h f =
    subst (AnswersFollow choice) (append_assoc before (sent n s ∷ []) items) (follows choice (before ++ sent n s ∷ []) items (follow-push_sent choice before n s h) f)
follows choice before (answered due ∷ items) h f =
    subst (AnswersFollow choice) (append_assoc before (answered due ∷ []) items)
    (follows choice (before ++ answered due ∷ []) items (follow-push_answer choice before due h (All-from_recursion (λ n. sent_by n before ≡ (choice n).sends) due.requests f.0)) f.1)

-- ---- each number

-- the listed courses of the numbers from 0 on, and for others their whole course
abbrev pub listed : MethodTable → List SeenUnit → List Course → Choice
listed table units courses n = get_or courses n (course table (entries_along units) n)

-- the whole courses of so many numbers, from this one on
abbrev pub whole : MethodTable → List SeenUnit → ℕ → ℕ → List Course
whole table units n zero = []
whole table units n (suc k) = course table (entries_along units) n ∷ whole table units (n + 1) k

abbrev pub EachFrom : (ℕ → Course → Type 0) → ℕ → List Course → Type 0
EachFrom P n [] = Unit {0}
EachFrom P n (c ∷ cs) = P n c × EachFrom P (n + 1) cs

each-at : (P : ℕ → Course → Type 0) (n : ℕ) (cs : List Course) (k : ℕ) (d : Course) → EachFrom P n cs → k < length cs → P (n + k) (get_or cs k d)
each-at P n [] k d h lt = absurd (omega arith)
each-at P n (c ∷ cs) zero d h lt = let same : n ≡ n + 0 = omega arith in subst (λ m. P m c) same h.0
each-at P n (c ∷ cs) (suc k) d h lt = let same : n + 1 + k ≡ n + suc k = omega arith in subst (λ m. P m (get_or cs k d)) same (each-at P (n + 1) cs k d h.1 (omega arith))

get-past : {A : Type 0} (xs : List A) (k : ℕ) (d : A) → length xs ≤ k → get_or xs k d ≡ d
get-past [] k d le = refl
get-past (x ∷ xs) zero d le = absurd (omega arith)
get-past (x ∷ xs) (suc k) d le = get-past xs k d (omega arith)

-- every item was sent by a number below
abbrev pub are_below : ℕ → List Item → Bool
are_below bound [] = true
are_below bound (sent n s ∷ items) = nat_lt n bound && are_below bound items
are_below bound (answered due ∷ items) = are_below bound items

and-left : (a b : Bool) → (a && b) ≡ true → a ≡ true
and-left true b h = refl
and-left false b h = cc

and-right : (a b : Bool) → (a && b) ≡ true → b ≡ true
and-right true b h = h
and-right false b h = cc

not_here : (n m : ℕ) (s : Sending) (rest : List Sending) (b : Bool) → (m == n) ≡ b → m < n → rest ≡ [] → cond b (s ∷ rest) rest ≡ []
not_here n m s rest true is lt h = let same : m ≡ n = (unsigned_Decides m n).0 is in absurd (omega (arith, same, lt))
not_here n m s rest false is lt h = h

below-silent : (bound n : ℕ) (items : List Item) → are_below bound items ≡ true → bound ≤ n → sent_by n items ≡ []
below-silent bound n [] h le = refl
below-silent bound n (sent m s ∷ items) h le =
    not_here n m s (sent_by n items) (m == n) refl (let lt : m < bound = ltb-true m bound (and-left (nat_lt m bound) (are_below bound items) h) in omega arith)
    (below-silent bound n items (and-right (nat_lt m bound) (are_below bound items) h) le)
below-silent bound n (answered due ∷ items) h le = below-silent bound n items h le

unknown-silent : (table : MethodTable) (entries : List SeenEntry) (n : ℕ) → numbers_in entries < n → (course table entries n).sends ≡ []
unknown-silent table entries zero h = absurd (omega arith)
unknown-silent table entries (suc n) h = ap (λ c. (course_of (replies entries (suc n)) (work_for table c)).sends) (call_numbered-unknown (suc n) entries h)

-- ---- a row

abbrev pub Takes : MethodTable → List SeenUnit → List Item → ℕ → Course → Type 0
Takes table units items n c = MayTake table (entries_along units) n c × (sent_by n items ≡ c.sends)

module _ (table : MethodTable) (units : List SeenUnit) (items : List Item) (courses : List Course) (each : EachFrom (Takes table units items) 0 courses)
    (all : nat_lt (numbers_in (entries_along units)) (length courses) ≡ true) (below : are_below (length courses) items ≡ true) where
  at : (n : ℕ) → (length courses ≤ n) ⊎ (n < length courses) → Takes table units items n (listed table units courses n)
  at n (inr lt) = let same : 0 + n ≡ n = omega arith in subst (λ m. Takes table units items m (listed table units courses n)) same (each-at (Takes table units items) 0 courses n _ each lt)
  at n (inl ge) =
      let past : get_or courses n (course table (entries_along units) n) ≡ course table (entries_along units) n = get-past courses n (course table (entries_along units) n) ge in
      let given : numbers_in (entries_along units) < length courses = ltb-true (numbers_in (entries_along units)) (length courses) all in
      (inl past, below-silent (length courses) n items below ge ∙ sym (unknown-silent table (entries_along units) n (omega arith)) ∙ ap (λ (c : Course). c.sends) (sym past))

  place : (n : ℕ) → (n < length courses) ⊎ (length courses ≤ n) → (length courses ≤ n) ⊎ (n < length courses)
  place n (inl lt) = inr lt
  place n (inr ge) = inl ge

  pub row : answers_in items ≡ due_answers (listed table units courses) units → Follows (listed table units courses) [] items → IsOutput table units items
  row answers order = record {
    choice = listed table units courses;
    lawful = λ n. (at n (place n (cases_lt n (length courses)))).0;
    output = record {
      answers = answers;
      sendings = λ n. (at n (place n (cases_lt n (length courses)))).1;
      order = follows (listed table units courses) [] items (λ before after due split. absurd (not_nothing before after (answered due) split)) order;
    };
  }
