-- Lists of owed units, and which of them are complete.
use Rattle.std.proofs.Common.{◌≡◌, ℕ, ◌+◌, ◌<◌, ◌==◌, not, Result, Ok, Err, OnOk, OnErr, Bool, true, false, cond, List, [], ◌∷◌, ◌++◌, Option, Some, None, refl, sym, ap, subst, ◌∙◌, arith, length, map, take, drop, append_assoc, length-append, ◌≤◌}
use Rattle.std.proofs.lemmas.Bool.{eqb-true}
use Rattle.std.proofs.lemmas.List.{append-nil, length-map, map-append, take_at, take-append-drop}
use Rattle.connection_history.specs.declared.order.Order.TheVariants.{AsAnswered}
use Rattle.connection_history.specs.Counts.{capped}
use Rattle.connection_history.specs.Items.{answer, text_of}
use Rattle.connection_steps.specs.Steps.{answers_of, is_complete, complete_front, incomplete_rest, leaving, staying}
use Rattle.open_calls.specs.Numbered.{at, without, next_number, Above, Ascending}
use Rattle.owed_answers.specs.Owed.{OwedUnit, OwedState, joined, texts_of, unit_texts}
use Rattle.connection_desk.proofs.Entries.{AtAbove, WithoutAbove}
use Rattle.connection_desk.proofs.States.{owed_state as state_of}
use Rattle.connection_desk.proofs.Rests.{rest_step_from}
use Rattle.outbox.specs.Output.{Output, OnlyPutSince}
use Rattle.connection_desk.specs.Desks.{answer_count, answer_texts, with_texts}
use Rattle.connection_desk.specs.Inner.{OnlyAt, complete_in, complete_at, complete_text_in, complete_text_at, rest_from, rest_of}

abbrev pub Units : Type 0
Units = List (ℕ × OwedUnit)

-- ---- the unit at a place

pub some_complete : (o : Option OwedUnit) → complete_in o ≡ true → (unit : OwedUnit) × (o ≡ Some unit) × (is_complete unit ≡ true)
some_complete None is = absurd (cc)
some_complete (Some unit) is = (unit, refl, is)

-- ---- texts behind those that were written

pub no_texts : (o : Output) → with_texts [] o ≡ o
no_texts o = ap (λ ts. let r : Output = record { framing = o.framing; written = ts; taken = o.taken } in r) (append-nil o.written)

pub more_texts : (ts us : List (List ℕ)) (o : Output) → with_texts us (with_texts ts o) ≡ with_texts (ts ++ us) o
more_texts ts us o = ap (λ vs. let r : Output = record { framing = o.framing; written = vs; taken = o.taken } in r) (append_assoc o.written ts us)

pub put_since : (ts : List (List ℕ)) (before now : Output) → now ≡ with_texts ts before → OnlyPutSince before now
put_since ts before now is = record {
  framing = ap (λ (o : Output). o.framing) is;
  written = ap (λ (o : Output). take (length before.written) o.written) is ∙ take_at before.written ts (length before.written) refl;
  taken = ap (λ (o : Output). o.taken) is;
}

pub same_since : (o : Output) → OnlyPutSince o o
same_since o = put_since [] o o (sym (no_texts o))

pub more_since : (ts : List (List ℕ)) (before middle now : Output) → OnlyPutSince before middle → now ≡ with_texts ts middle → OnlyPutSince before now
more_since ts before middle now since is =
    let more = drop (length before.written) middle.written in
    let whole : middle.written ≡ before.written ++ more =
    sym (take-append-drop (length before.written) middle.written) ∙ ap (λ us. us ++ more) since.written in
    record {
      framing = ap (λ (o : Output). o.framing) is ∙ since.framing;
      written = ap (λ (o : Output). take (length before.written) o.written) is
          ∙ ap (λ us. take (length before.written) (us ++ ts)) whole
          ∙ ap (take (length before.written)) (append_assoc before.written more ts)
          ∙ take_at before.written (more ++ ts) (length before.written) refl;
      taken = ap (λ (o : Output). o.taken) is ∙ since.taken;
    }

pub since_texts : (ts : List (List ℕ)) (before middle now : Output) → middle ≡ with_texts ts before → OnlyPutSince middle now → OnlyPutSince before now
since_texts ts before middle now is since =
    let more = drop (length middle.written) now.written in
    let whole : now.written ≡ before.written ++ (ts ++ more) =
    sym (take-append-drop (length middle.written) now.written) ∙ ap (λ us. us ++ more) since.written
    ∙ ap (λ (o : Output). o.written ++ more) is ∙ append_assoc before.written ts more in
    record {
      framing = since.framing ∙ ap (λ (o : Output). o.framing) is;
      written = ap (take (length before.written)) whole ∙ take_at before.written (ts ++ more) (length before.written) refl;
      taken = since.taken ∙ ap (λ (o : Output). o.taken) is;
    }

-- ---- the answer of a unit

-- an answer that isn't whole has no text yet
pub incomplete_text : (o : Option OwedUnit) → complete_in o ≡ false → complete_text_in o ≡ []
incomplete_text None is = refl
incomplete_text (Some unit) is = ap (λ b. cond b (unit_texts unit) []) is

answered_texts : (place : ℕ) (ts : List (List ℕ)) → map text_of (map (answer place) ts) ≡ ts
answered_texts place [] = refl
answered_texts place (t ∷ ts) = ap (λ us. t ∷ us) (answered_texts place ts)

-- the texts of a unit stand before those of the others
pub texts_more : (e : ℕ × OwedUnit) (es : Units) → answer_texts (e ∷ es) ≡ unit_texts e.1 ++ answer_texts es
texts_more e es = map-append text_of (map (answer e.0) (unit_texts e.1)) (answers_of es) ∙ ap (λ ts. ts ++ answer_texts es) (answered_texts e.0 (unit_texts e.1))

-- how many answers there are, by their texts
pub count_texts : (es : Units) → answer_count es ≡ length (answer_texts es)
count_texts es = sym (length-map (answers_of es) text_of)

-- ---- as answered: none but the one at this place can go out

pub none_first : (b : Bool) (e : ℕ × OwedUnit) (fs : Units) → cond b (e ∷ fs) fs ≡ [] → (b ≡ false) × (fs ≡ [])
none_first true e fs is = absurd (cc)
none_first false e fs is = (refl, is)

first_text : (b : Bool) (e : ℕ × OwedUnit) (fs : Units) → fs ≡ [] → cond b (unit_texts e.1) [] ≡ answer_texts (cond b (e ∷ fs) fs)
first_text true e fs none = sym (texts_more e fs ∙ ap (λ gs. unit_texts e.1 ++ answer_texts gs) none ∙ append-nil (unit_texts e.1))
first_text false e fs none = ap answer_texts (sym none)

text_step : (b : Bool) (e : ℕ × OwedUnit) (o : Option OwedUnit) (rest es : Units) → (b ≡ true → rest ≡ es)
    → (leaving AsAnswered rest ≡ [] → complete_text_in o ≡ answer_texts (leaving AsAnswered es))
    → leaving AsAnswered (cond (not b) (e ∷ rest) rest) ≡ []
    → complete_text_in (cond b (Some e.1) o) ≡ answer_texts (leaving AsAnswered (e ∷ es))
text_step true e o rest es here there only =
    let none : leaving AsAnswered es ≡ [] = ap (leaving AsAnswered) (sym (here refl)) ∙ only in
    first_text (is_complete e.1) e (leaving AsAnswered es) none
text_step false e o rest es here there only =
    let none = none_first (is_complete e.1) e (leaving AsAnswered rest) only in
    there none.1 ∙ sym (ap (λ b. answer_texts (cond b (e ∷ leaving AsAnswered es) (leaving AsAnswered es))) none.0)

rest_is : (stay : WithoutAbove OwedUnit) (place : ℕ) (e : ℕ × OwedUnit) (es : Units) → Above e.0 es → (place == e.0) ≡ true → without place es ≡ es
rest_is stay place e es above here = stay place es (subst (λ m. Above m es) (sym (eqb-true place e.0 here)) above)

pub only_text : (stay : WithoutAbove OwedUnit) (place : ℕ) (owed : Units) → Ascending owed → OnlyAt AsAnswered place owed → complete_text_at place owed ≡ answer_texts (leaving AsAnswered owed)
only_text stay place [] order only = refl
only_text stay place (e ∷ es) order only =
    text_step (place == e.0) e (at place es) (without place es) es (rest_is stay place e es order.0) (λ none. only_text stay place es order.1 none) only

pub all_stay : (owed : Units) → leaving AsAnswered owed ≡ [] → staying AsAnswered owed ≡ owed
all_stay [] is = refl
all_stay (e ∷ es) is =
    let none = none_first (is_complete e.1) e (leaving AsAnswered es) is in
    ap (λ b. cond (not b) (e ∷ staying AsAnswered es) (staying AsAnswered es)) none.0 ∙ ap (λ t. e ∷ t) (all_stay es none.1)

first_rest : (b : Bool) (e : ℕ × OwedUnit) (rest es kept : Units) → rest ≡ es → kept ≡ es → cond b rest (e ∷ es) ≡ cond (not b) (e ∷ kept) kept
first_rest true e rest es kept is all = is ∙ sym all
first_rest false e rest es kept is all = ap (λ t. e ∷ t) (sym all)

cond_cons : (b : Bool) (e : ℕ × OwedUnit) (rest es : Units) → cond b (e ∷ rest) (e ∷ es) ≡ e ∷ cond b rest es
cond_cons true e rest es = refl
cond_cons false e rest es = refl

rest_step : (b : Bool) (e : ℕ × OwedUnit) (o : Option OwedUnit) (rest es : Units) → (b ≡ true → rest ≡ es)
    → (leaving AsAnswered rest ≡ [] → cond (complete_in o) rest es ≡ staying AsAnswered es)
    → leaving AsAnswered (cond (not b) (e ∷ rest) rest) ≡ []
    → cond (complete_in (cond b (Some e.1) o)) (cond (not b) (e ∷ rest) rest) (e ∷ es) ≡ staying AsAnswered (e ∷ es)
rest_step true e o rest es here there only =
    let none : leaving AsAnswered es ≡ [] = ap (leaving AsAnswered) (sym (here refl)) ∙ only in
    first_rest (is_complete e.1) e rest es (staying AsAnswered es) (here refl) (all_stay es none)
rest_step false e o rest es here there only =
    let none = none_first (is_complete e.1) e (leaving AsAnswered rest) only in
    cond_cons (complete_in o) e rest es ∙ ap (λ t. e ∷ t) (there none.1)
    ∙ sym (ap (λ b. cond (not b) (e ∷ staying AsAnswered es) (staying AsAnswered es)) none.0)

pub only_rest : (stay : WithoutAbove OwedUnit) (place : ℕ) (owed : Units) → Ascending owed → OnlyAt AsAnswered place owed → cond (complete_at place owed) (without place owed) owed ≡ staying AsAnswered owed
only_rest stay place [] order only = refl
only_rest stay place (e ∷ es) order only =
    rest_step (place == e.0) e (at place es) (without place es) es (rest_is stay place e es order.0) (λ none. only_rest stay place es order.1 none) only

-- ---- as came: those in front, one by one

-- the first of the rest goes out
pub front_more : (above : AtAbove OwedUnit) (n : ℕ) (owed : Units) → Ascending owed → complete_at n owed ≡ true
    → answer_texts (complete_front (rest_from n owed)) ≡ complete_text_at n owed ++ answer_texts (complete_front (rest_of (next_number n owed) owed))
front_more above n owed order is =
    let found = some_complete (at n owed) is in
    let rest = rest_of (next_number n owed) owed in
    ap (λ es. answer_texts (complete_front es)) (rest_step_from above n found.0 owed order found.1)
    ∙ ap (λ b. answer_texts (cond b ((n, found.0) ∷ complete_front rest) [])) found.2
    ∙ texts_more (n, found.0) (complete_front rest)
    ∙ sym (ap (λ ts. ts ++ answer_texts (complete_front rest)) (ap complete_text_in found.1 ∙ ap (λ b. cond b (unit_texts found.0) []) found.2))

pub rest_shorter : (above : AtAbove OwedUnit) (n : ℕ) (owed : Units) → Ascending owed → complete_at n owed ≡ true → length (rest_of (next_number n owed) owed) < length (rest_from n owed)
rest_shorter above n owed order is =
    let found = some_complete (at n owed) is in
    omega (arith, ap length (rest_step_from above n found.0 owed order found.1))

stop_step : (b : Bool) (e : ℕ × OwedUnit) (o : Option OwedUnit) (es fs : Units) → (complete_in o ≡ false → complete_front fs ≡ [])
    → complete_in (cond b (Some e.1) o) ≡ false → complete_front (cond b (e ∷ es) fs) ≡ []
stop_step true e o es fs there is = ap (λ b. cond b (e ∷ complete_front es) []) is
stop_step false e o es fs there is = there is

-- the first of the rest isn't complete
pub front_stops : (n : ℕ) (owed : Units) → complete_at n owed ≡ false → complete_front (rest_from n owed) ≡ []
front_stops n [] is = refl
front_stops n (e ∷ es) is = stop_step (n == e.0) e (at n es) es (rest_from n es) (front_stops n es) is

-- ---- the state

pub same_state : (now : OwedState) (places : ℕ) (owed : Units) → now.places ≡ places → now.owed ≡ owed → now ≡ state_of places owed
same_state now places owed p q = ap (λ n. state_of n now.owed) p ∙ ap (λ es. state_of places es) q

-- ---- how many go out

-- as came: the answer of the first of the rest, and then those behind it
pub front_count : (above : AtAbove OwedUnit) (n : ℕ) (owed : Units) → Ascending owed → complete_at n owed ≡ true
    → answer_count (complete_front (rest_from n owed)) ≡ length (complete_text_at n owed) + answer_count (complete_front (rest_of (next_number n owed) owed))
front_count above n owed order is =
    let rest = complete_front (rest_of (next_number n owed) owed) in
    count_texts (complete_front (rest_from n owed))
    ∙ ap length (front_more above n owed order is)
    ∙ length-append (complete_text_at n owed) (answer_texts rest)
    ∙ ap (λ k. length (complete_text_at n owed) + k) (sym (count_texts rest))

-- what stays then
pub front_rest : (above : AtAbove OwedUnit) (n : ℕ) (owed : Units) → Ascending owed → complete_at n owed ≡ true
    → incomplete_rest (rest_of (next_number n owed) owed) ≡ incomplete_rest (rest_from n owed)
front_rest above n owed order is =
    let found = some_complete (at n owed) is in
    let rest = rest_of (next_number n owed) owed in
    sym (ap incomplete_rest (rest_step_from above n found.0 owed order found.1) ∙ ap (λ b. cond b (incomplete_rest rest) ((n, found.0) ∷ rest)) found.2)

-- no unit has more than one
joined_few : (batch : Bool) (texts : List (List ℕ)) → length (joined batch texts) ≤ 1
joined_few batch [] = omega arith
joined_few batch (t ∷ ts) = omega arith

pub unit_few : (unit : OwedUnit) → length (unit_texts unit) ≤ 1
unit_few unit = joined_few unit.is_batch (texts_of unit)

few_either : (b : Bool) (unit : OwedUnit) → length (cond b (unit_texts unit) []) ≤ 1
few_either true unit = unit_few unit
few_either false unit = omega arith

texts_few : (o : Option OwedUnit) → length (complete_text_in o) ≤ 1
texts_few None = omega arith
texts_few (Some unit) = few_either (is_complete unit) unit

pub only_count : (stay : WithoutAbove OwedUnit) (place : ℕ) (owed : Units) → Ascending owed → OnlyAt AsAnswered place owed → length (complete_text_at place owed) ≡ capped (answer_count (leaving AsAnswered owed))
only_count stay place owed order only =
    let same : length (complete_text_at place owed) ≡ answer_count (leaving AsAnswered owed) = ap length (only_text stay place owed order only) ∙ sym (count_texts (leaving AsAnswered owed)) in
    let few : length (complete_text_at place owed) ≤ 1 = texts_few (at place owed) in
    omega (arith, same, few)

-- ---- results

pub on_err : {T E : Type 0} {P : Type 0} (r : Result T E) → P → OnErr r P
on_err (Ok x) h = tt
on_err (Err e) h = h

pub on_ok : {T E : Type 0} {P : Type 0} (r : Result T E) → P → OnOk r P
on_ok (Ok x) h = h
on_ok (Err e) h = tt

pub ok_to : {T E X : Type 0} (r : Result T E) (a b d : X) → b ≡ d → OnOk r (a ≡ b) → OnOk r (a ≡ d)
ok_to (Ok x) a b d is h = h ∙ is
ok_to (Err e) a b d is h = tt
