-- Answers that are out, and those that newly are.
use Rattle.std.proofs.Common.{◌≡◌, ℕ, zero, suc, ◌+◌, ◌<◌, ◌==◌, List, [], ◌∷◌, ◌++◌, map, Bool, true, false, cond, Option, Some, None, refl, sym, ap, ◌∙◌, append-nil, arith}
use Rattle.std.specs.Prelude.{slice_get, unwrap_or}
use Rattle.std.specs.Option.{option_to_list}
use Rattle.connection_history.specs.declared.order.Order.{Order}
use Rattle.connection_history.specs.declared.order.Order.TheVariants.{AsAnswered, AsCame}
use Rattle.connection_history.specs.Answers.{Due, open_yet, nothing, text, dues}
use Rattle.connection_history.specs.Items.{Item, said, answer, said_at, text_if_due, out, newly_at, newly_out, answers_at, items_at, items_of}
use Rattle.connection_history.specs.History.{Happening, came, called, called_all, noticed, withdrew, answered, ended, History}
use Rattle.connection_history.specs.Written.{answers_of}
use Rattle.connection_history.proofs.Dues.{DueStays, DuesStay, dues-stay}
use Rattle.connection_history.proofs.Tests.{different, same_test}

-- what a list of outs has at a place
abbrev pub out_at : List (Option (List ℕ)) → ℕ → Option (List ℕ)
out_at outs place = unwrap_or (slice_get outs place) None

-- nothing is out at any place
pub out_at-none : (ds : List Due) (place : ℕ) → out_at (map (λ d. None) ds) place ≡ None
out_at-none [] place = refl
out_at-none (d ∷ ds) zero = refl
out_at-none (d ∷ ds) (suc place) = out_at-none ds place

-- ---- what is out stays out

due_out : (d e : Due) (t : List ℕ) → DueStays d e → text_if_due d ≡ Some t → text_if_due e ≡ Some t
due_out open_yet e t stays h = absurd (cc)
due_out nothing e t stays h = absurd (cc)
due_out (text s) e t stays h = ap text_if_due stays ∙ h

answered_out : (ds later : List Due) (place : ℕ) (t : List ℕ) → DuesStay ds later → out_at (map text_if_due ds) place ≡ Some t → out_at (map text_if_due later) place ≡ Some t
answered_out [] later place t stays h = absurd (cc)
answered_out (d ∷ ds) [] place t stays h = absurd stays
answered_out (d ∷ ds) (e ∷ later) zero t stays h = due_out d e t stays.0 h
answered_out (d ∷ ds) (e ∷ later) (suc place) t stays h = answered_out ds later place t stays.1 h

came_out : (ds later : List Due) (place : ℕ) (t : List ℕ) → DuesStay ds later → out_at (out AsCame ds) place ≡ Some t → out_at (out AsCame later) place ≡ Some t
came_out [] later place t stays h = absurd (cc)
came_out (d ∷ ds) [] place t stays h = absurd stays
came_out (open_yet ∷ ds) (e ∷ later) zero t stays h = absurd (cc)
came_out (open_yet ∷ ds) (e ∷ later) (suc place) t stays h = let none = out_at-none ds place in absurd (cc)
came_out (nothing ∷ ds) (e ∷ later) zero t stays h = absurd (cc)
came_out (nothing ∷ ds) (e ∷ later) (suc place) t stays h =
    ap (λ d. out_at (out AsCame (d ∷ later)) (suc place)) stays.0 ∙ came_out ds later place t stays.1 h
came_out (text s ∷ ds) (e ∷ later) zero t stays h = ap (λ d. out_at (out AsCame (d ∷ later)) zero) stays.0 ∙ h
came_out (text s ∷ ds) (e ∷ later) (suc place) t stays h =
    ap (λ d. out_at (out AsCame (d ∷ later)) (suc place)) stays.0 ∙ came_out ds later place t stays.1 h

-- in both orders, what is out stays out
pub stays_out : (order : Order) (ds later : List Due) (place : ℕ) (t : List ℕ) → DuesStay ds later → out_at (out order ds) place ≡ Some t → out_at (out order later) place ≡ Some t
stays_out AsAnswered ds later place t stays h = answered_out ds later place t stays h
stays_out AsCame ds later place t stays h = came_out ds later place t stays h

-- ---- what newly is out

-- what is out after and wasn't before
abbrev pub fresh : Option (List ℕ) → Option (List ℕ) → Option (List ℕ)
fresh (Some t) after = None
fresh None after = after

one_more : (b : Bool) (t : List ℕ) (front rest whole : List (List ℕ)) → whole ≡ front ++ rest → cond b (t ∷ whole) whole ≡ cond b (t ∷ front) front ++ rest
one_more true t front rest whole h = ap (λ l. t ∷ l) h
one_more false t front rest whole h = h

-- the answers of a unit in items, and then in more
pub answers_of-append : (place : ℕ) (items more : List Item) → answers_of place (items ++ more) ≡ answers_of place items ++ answers_of place more
answers_of-append place [] more = refl
answers_of-append place (said t ∷ items) more = answers_of-append place items more
answers_of-append place (answer i t ∷ items) more = one_more (i == place) t (answers_of place items) (answers_of place more) (answers_of place (items ++ more)) (answers_of-append place items more)

chosen : (b : Bool) (t : List ℕ) → b ≡ true → cond b (t ∷ []) [] ≡ t ∷ []
chosen true t h = refl
chosen false t h = absurd (cc)

passed : (b : Bool) (t : List ℕ) → b ≡ false → cond b (t ∷ []) [] ≡ []
passed true t h = absurd (cc)
passed false t h = refl

newly-here : (place i : ℕ) (before after : Option (List ℕ)) → i ≡ place → answers_of place (newly_at i before after) ≡ option_to_list (fresh before after)
newly-here place i (Some s) after h = refl
newly-here place i None None h = refl
newly-here place i None (Some t) h = chosen (i == place) t (same_test i place h)

newly-elsewhere : (place i : ℕ) (before after : Option (List ℕ)) → (i == place) ≡ false → answers_of place (newly_at i before after) ≡ []
newly-elsewhere place i (Some s) after h = refl
newly-elsewhere place i None None h = refl
newly-elsewhere place i None (Some t) h = passed (i == place) t h

fresh_none : (o : Option (List ℕ)) → fresh o None ≡ None
fresh_none None = refl
fresh_none (Some t) = refl

-- Of a place before these there is nothing.
newly_out-before : (place i : ℕ) (before after : List (Option (List ℕ))) → place < i → answers_of place (newly_out i before after) ≡ []
newly_out-before place i before [] h = refl
newly_out-before place i [] (a ∷ after) h =
    answers_of-append place (newly_at i None a) (newly_out (i + 1) [] after)
    ∙ (λ k. newly-elsewhere place i None a (different i place (λ e. omega arith)) k ++ newly_out-before place (i + 1) [] after (omega arith) k)
newly_out-before place i (b ∷ before) (a ∷ after) h =
    answers_of-append place (newly_at i b a) (newly_out (i + 1) before after)
    ∙ (λ k. newly-elsewhere place i b a (different i place (λ e. omega arith)) k ++ newly_out-before place (i + 1) before after (omega arith) k)

-- the answer that newly is out at a place
pub newly_out-at : (i place : ℕ) (at : ℕ) (before after : List (Option (List ℕ))) → i + place ≡ at
    → answers_of at (newly_out i before after) ≡ option_to_list (fresh (out_at before place) (out_at after place))
newly_out-at i place at before [] h = ap option_to_list (sym (fresh_none (out_at before place)))
newly_out-at i zero at [] (a ∷ after) h =
    answers_of-append at (newly_at i None a) (newly_out (i + 1) [] after)
    ∙ (λ k. newly-here at i None a (omega arith) k ++ newly_out-before at (i + 1) [] after (omega arith) k) ∙ append-nil (option_to_list a)
newly_out-at i (suc place) at [] (a ∷ after) h =
    answers_of-append at (newly_at i None a) (newly_out (i + 1) [] after)
    ∙ (λ k. newly-elsewhere at i None a (different i at (λ e. omega arith)) k ++ newly_out-at (i + 1) place at [] after (omega arith) k)
newly_out-at i zero at (b ∷ before) (a ∷ after) h =
    answers_of-append at (newly_at i b a) (newly_out (i + 1) before after)
    ∙ (λ k. newly-here at i b a (omega arith) k ++ newly_out-before at (i + 1) before after (omega arith) k) ∙ append-nil (option_to_list (fresh b a))
newly_out-at i (suc place) at (b ∷ before) (a ∷ after) h =
    answers_of-append at (newly_at i b a) (newly_out (i + 1) before after)
    ∙ (λ k. newly-elsewhere at i b a (different i at (λ e. omega arith)) k ++ newly_out-at (i + 1) place at before after (omega arith) k)

-- ---- a unit's answer in all that is written

said-no_answers : (place : ℕ) (past : History) (h : Happening) → answers_of place (said_at past h) ≡ []
said-no_answers place past (came from u) = refl
said-no_answers place past (called n o) = refl
said-no_answers place past (called_all n os) = refl
said-no_answers place past (noticed o) = refl
said-no_answers place past (withdrew by k) = refl
said-no_answers place past (answered n a) = refl
said-no_answers place past (ended close) = refl

-- what happens writes the answer that it newly lets out
pub answers_of-at : (order : Order) (past : History) (h : Happening) (place : ℕ)
    → answers_of place (items_at order past h) ≡ option_to_list (fresh (out_at (out order (dues past)) place) (out_at (out order (dues (h ∷ past))) place))
answers_of-at order past h place =
    answers_of-append place (said_at past h) (answers_at order past h)
    ∙ (λ k. said-no_answers place past h k ++ newly_out-at 0 place place (out order (dues past)) (out order (dues (h ∷ past))) (omega arith) k)

-- what was out and what newly is, together
joined_with : (o p : Option (List ℕ)) → ((t : List ℕ) → o ≡ Some t → p ≡ Some t) → option_to_list o ++ option_to_list (fresh o p) ≡ option_to_list p
joined_with None p stays = refl
joined_with (Some t) p stays = ap option_to_list (sym (stays t refl))

nothing_out : (order : Order) (place : ℕ) → option_to_list (out_at (out order []) place) ≡ []
nothing_out AsAnswered place = refl
nothing_out AsCame place = refl

-- at each place, all that is written has the answer that is out
pub each_answer : (order : Order) (history : History) (place : ℕ) → answers_of place (items_of order history) ≡ option_to_list (out_at (out order (dues history)) place)
each_answer order [] place = sym (nothing_out order place)
each_answer order (h ∷ past) place =
    answers_of-append place (items_of order past) (items_at order past h)
    ∙ (λ k. each_answer order past place k ++ answers_of-at order past h place k)
    ∙ joined_with (out_at (out order (dues past)) place) (out_at (out order (dues (h ∷ past))) place)
    (λ t is. stays_out order (dues past) (dues (h ∷ past)) place t (dues-stay past h) is)
