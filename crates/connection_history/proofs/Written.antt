-- What is said in what is written, and what stands before an answer.
use Rattle.std.proofs.Common.{◌≡◌, ℕ, zero, suc, ◌+◌, cond, List, [], ◌∷◌, ◌++◌, Option, Some, None, refl, sym, ap, subst, ◌∙◌, append-nil}
use Rattle.std.specs.Prelude.{slice_get}
use Rattle.std.specs.Option.{option_to_list}
use Rattle.connection_history.specs.declared.order.Order.{Order}
use Rattle.connection_history.specs.declared.order.Order.TheVariants.{AsAnswered, AsCame}
use Rattle.connection_history.specs.Answers.{Due, open_yet, nothing, text, dues}
use Rattle.connection_history.specs.History.{Happening, came, called, called_all, noticed, withdrew, answered, ended, History}
use Rattle.connection_history.specs.Items.{Item, said, answer, said_at, text_if_due, out, newly_at, newly_out, answers_at, items_at, items_of}
use Rattle.connection_history.specs.Written.{said_in, said_of, answers_of, places_in, GoesOutAfter}
use Rattle.connection_history.proofs.Outs.{out_at, out_at-none, fresh, answers_of-append, answers_of-at}
use Rattle.connection_history.proofs.Tests.{same_test}

-- ---- what is said

-- what is said in items, and then in more
pub said_in-append : (items more : List Item) → said_in (items ++ more) ≡ said_in items ++ said_in more
said_in-append [] more = refl
said_in-append (said t ∷ items) more = ap (λ l. t ∷ l) (said_in-append items more)
said_in-append (answer place t ∷ items) more = said_in-append items more

newly-not_said : (place : ℕ) (before after : Option (List ℕ)) → said_in (newly_at place before after) ≡ []
newly-not_said place (Some t) after = refl
newly-not_said place None None = refl
newly-not_said place None (Some t) = refl

newly_out-not_said : (place : ℕ) (before after : List (Option (List ℕ))) → said_in (newly_out place before after) ≡ []
newly_out-not_said place before [] = refl
newly_out-not_said place [] (a ∷ after) =
    said_in-append (newly_at place None a) (newly_out (place + 1) [] after) ∙ (λ i. newly-not_said place None a i ++ newly_out-not_said (place + 1) [] after i)
newly_out-not_said place (b ∷ before) (a ∷ after) =
    said_in-append (newly_at place b a) (newly_out (place + 1) before after) ∙ (λ i. newly-not_said place b a i ++ newly_out-not_said (place + 1) before after i)

answers-not_said : (order : Order) (past : History) (h : Happening) → said_in (answers_at order past h) ≡ []
answers-not_said order past h = newly_out-not_said 0 (out order (dues past)) (out order (dues (h ∷ past)))

-- what is said is written once, in its order
pub said_once : (order : Order) (history : History) → said_in (items_of order history) ≡ said_of history
said_once order [] = refl
said_once order (h ∷ past) =
    said_in-append (items_of order past) (items_at order past h)
    ∙ (λ i. said_once order past i ++ (said_in-append (said_at past h) (answers_at order past h) ∙ ap (λ l. said_in (said_at past h) ++ l) (answers-not_said order past h) ∙ append-nil (said_in (said_at past h))) i)

-- ---- where an item stands among two lists

-- It stands in the first, or in the second.
pub data Stands {A : Type 0} (xs ys front : List A) (x : A) (rest : List A) : Type 0 where
  in_first : (later : List A) → xs ≡ front ++ x ∷ later → Stands xs ys front x rest
  in_second : (earlier : List A) → front ≡ xs ++ earlier → ys ≡ earlier ++ x ∷ rest → Stands xs ys front x rest

stands_on : {A : Type 0} (w : A) (xs ys front : List A) (x : A) (rest : List A) → Stands xs ys front x rest → Stands (w ∷ xs) ys (w ∷ front) x rest
stands_on w xs ys front x rest (in_first later split) = in_first later (ap (λ l. w ∷ l) split)
stands_on w xs ys front x rest (in_second earlier before split) = in_second earlier (ap (λ l. w ∷ l) before) split

stands_from : {A : Type 0} (v w : A) (xs ys front : List A) (x : A) (rest : List A) → v ≡ w → Stands (v ∷ xs) ys (v ∷ front) x rest → Stands (v ∷ xs) ys (w ∷ front) x rest
stands_from v w xs ys front x rest same h = subst (λ u. Stands (v ∷ xs) ys (u ∷ front) x rest) same h

-- an item of two lists stands in one of them
pub stands : {A : Type 0} (xs ys front : List A) (x : A) (rest : List A) → xs ++ ys ≡ front ++ x ∷ rest → Stands xs ys front x rest
stands [] ys front x rest h = in_second front refl h
stands (w ∷ xs) ys [] x rest h = let first : w ≡ x = cc in in_first xs (ap (λ v. v ∷ xs) first)
stands (w ∷ xs) ys (v ∷ front) x rest h =
    let first : w ≡ v = cc in
    let others : xs ++ ys ≡ front ++ x ∷ rest = cc in
    stands_from w v xs ys front x rest first (stands_on w xs ys front x rest (stands xs ys front x rest others))

-- ---- what stands before an answer

-- what is said is no answer
pub said-no_places : (past : History) (h : Happening) → places_in (said_at past h) ≡ []
said-no_places past (came from u) = refl
said-no_places past (called n o) = refl
said-no_places past (called_all n os) = refl
said-no_places past (noticed o) = refl
said-no_places past (withdrew by k) = refl
said-no_places past (answered n a) = refl
said-no_places past (ended close) = refl

some_place : (front : List Item) (place : ℕ) (t : List ℕ) (rest : List Item) → places_in (front ++ answer place t ∷ rest) ≡ [] → ⊥
some_place [] place t rest h = cc
some_place (said s ∷ front) place t rest h = some_place front place t rest h
some_place (answer i s ∷ front) place t rest h = cc

nothing_said : (front more : List (List ℕ)) → front ++ more ≡ [] → front ≡ []
nothing_said [] more h = refl
nothing_said (t ∷ front) more h = absurd (cc)

only_one : (front : List (List ℕ)) (t : List ℕ) (rest : List (List ℕ)) (o : Option (List ℕ)) → front ++ t ∷ rest ≡ option_to_list o → o ≡ Some t
only_one [] t rest None h = absurd (cc)
only_one [] t rest (Some s) h = cc
only_one (s ∷ front) t rest None h = absurd (cc)
only_one (s ∷ []) t rest (Some u) h = absurd (cc)
only_one (s ∷ v ∷ front) t rest (Some u) h = absurd (cc)

fresh_after : (before after : Option (List ℕ)) (t : List ℕ) → fresh before after ≡ Some t → after ≡ Some t
fresh_after None after t h = h
fresh_after (Some s) after t h = absurd (cc)

here_if : (place : ℕ) (t : List ℕ) (items : List Item) → (rest : List (List ℕ)) × (answers_of place (answer place t ∷ items) ≡ t ∷ rest)
here_if place t items = (answers_of place items, ap (λ b. cond b (t ∷ answers_of place items) (answers_of place items)) (same_test place place refl))

due_text : (d : Due) (t : List ℕ) → text_if_due d ≡ Some t → d ≡ text t
due_text open_yet t h = absurd (cc)
due_text nothing t h = absurd (cc)
due_text (text s) t h = let same : s ≡ t = cc in ap text same

answered-due : (ds : List Due) (place : ℕ) (t : List ℕ) → out_at (out AsAnswered ds) place ≡ Some t → slice_get ds place ≡ Some (text t)
answered-due [] place t h = absurd (cc)
answered-due (d ∷ ds) zero t h = ap (λ e. Some e) (due_text d t h)
answered-due (d ∷ ds) (suc place) t h = answered-due ds place t h

came-due : (ds : List Due) (place : ℕ) (t : List ℕ) → out_at (out AsCame ds) place ≡ Some t → slice_get ds place ≡ Some (text t)
came-due [] place t h = absurd (cc)
came-due (open_yet ∷ ds) zero t h = absurd (cc)
came-due (open_yet ∷ ds) (suc place) t h = let none = out_at-none ds place in absurd (cc)
came-due (nothing ∷ ds) zero t h = absurd (cc)
came-due (nothing ∷ ds) (suc place) t h = came-due ds place t h
came-due (text s ∷ ds) zero t h = let same : s ≡ t = cc in ap (λ u. Some (text u)) same
came-due (text s ∷ ds) (suc place) t h = came-due ds place t h

out-due : (order : Order) (ds : List Due) (place : ℕ) (t : List ℕ) → out_at (out order ds) place ≡ Some t → slice_get ds place ≡ Some (text t)
out-due AsAnswered ds place t h = answered-due ds place t h
out-due AsCame ds place t h = came-due ds place t h

-- an answer that goes out is due when it does
newly-due : (order : Order) (past : History) (h : Happening) (front : List Item) (place : ℕ) (t : List ℕ) (rest : List Item)
    → items_at order past h ≡ front ++ answer place t ∷ rest → slice_get (dues (h ∷ past)) place ≡ Some (text t)
newly-due order past h front place t rest split =
    let one = here_if place t rest in
    let all : answers_of place front ++ t ∷ one.0 ≡ option_to_list (fresh (out_at (out order (dues past)) place) (out_at (out order (dues (h ∷ past))) place)) =
    ap (λ l. answers_of place front ++ l) (sym one.1) ∙ sym (answers_of-append place front (answer place t ∷ rest)) ∙ ap (answers_of place) (sym split) ∙ answers_of-at order past h place in
    out-due order (dues (h ∷ past)) place t
    (fresh_after (out_at (out order (dues past)) place) (out_at (out order (dues (h ∷ past))) place) t (only_one (answers_of place front) t one.0 _ all))

before_newly : (order : Order) (past : History) (h : Happening) (front : List Item) (place : ℕ) (t : List ℕ) (rest : List Item)
    → Stands (said_at past h) (answers_at order past h) front (answer place t) rest → said_in front ≡ said_in (said_at past h)
before_newly order past h front place t rest (in_first later split) = absurd (some_place front place t later (ap places_in (sym split) ∙ said-no_places past h))
before_newly order past h front place t rest (in_second earlier before split) =
    let none : said_in earlier ≡ [] =
    nothing_said (said_in earlier) (said_in (answer place t ∷ rest))
    (sym (said_in-append earlier (answer place t ∷ rest)) ∙ ap said_in (sym split) ∙ answers-not_said order past h) in
    ap said_in before ∙ said_in-append (said_at past h) earlier ∙ ap (λ l. said_in (said_at past h) ++ l) none ∙ append-nil (said_in (said_at past h))

-- the same history, with one more thing that happened
went_out_before : (h : Happening) (past : History) (front : List Item) (place : ℕ) (t : List ℕ) → GoesOutAfter past front place t → GoesOutAfter (h ∷ past) front place t
went_out_before h past front place t g = record { more = h ∷ g.more; past = g.past; whole = ap (λ l. h ∷ l) g.whole; due = g.due; said = g.said }

goes_out : (order : Order) (h : Happening) (past : History) (front : List Item) (place : ℕ) (t : List ℕ) (rest : List Item)
    → ((front : List Item) (rest : List Item) → items_of order past ≡ front ++ answer place t ∷ rest → GoesOutAfter past front place t)
    → Stands (items_of order past) (items_at order past h) front (answer place t) rest → GoesOutAfter (h ∷ past) front place t
goes_out order h past front place t rest earlier_ones (in_first later split) = went_out_before h past front place t (earlier_ones front later split)
goes_out order h past front place t rest earlier_ones (in_second earlier before split) =
    let here = stands (said_at past h) (answers_at order past h) earlier (answer place t) rest split in
    record {
      more = [];
      past = h ∷ past;
      whole = refl;
      due = newly-due order past h earlier place t rest split;
      said = ap said_in before ∙ said_in-append (items_of order past) earlier ∙ (λ i. said_once order past i ++ before_newly order past h earlier place t rest here i);
    }

no_items : (front : List Item) (x : Item) (rest : List Item) → [] ≡ front ++ x ∷ rest → ⊥
no_items [] x rest h = cc
no_items (y ∷ front) x rest h = cc

-- an answer stands after all that was said before it was due
pub answers_follow : (order : Order) (history : History) (front rest : List Item) (place : ℕ) (t : List ℕ)
    → items_of order history ≡ front ++ answer place t ∷ rest → GoesOutAfter history front place t
answers_follow order [] front rest place t h = absurd (no_items front (answer place t) rest h)
answers_follow order (h ∷ past) front rest place t split =
    goes_out order h past front place t rest
    (λ front₁ rest₁ split₁. answers_follow order past front₁ rest₁ place t split₁)
    (stands (items_of order past) (items_at order past h) front (answer place t) rest split)
