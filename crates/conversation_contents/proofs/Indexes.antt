-- Entries of which an index tells those that are left.
use Rattle.std.proofs.Common.{◌≡◌, ℕ, suc, ◌+◌, ◌<◌, ◌==◌, ◌&&◌, ◌||◌, not, List, [], ◌∷◌, ◌++◌, Bool, true, false, Option, Some, None, Result, Ok, Err, IfOk, OnOk, OnErr, Vec, Global, length, map, position, refl, ap, sym, subst, ◌∙◌, arith, append_assoc, option_map, if◌then◌else◌, cond, eq-eqb}
use Rattle.std.specs.Prelude.{MatchOption, is_some}
use Rattle.std.specs.List.{filter_map, list_any, remove, slice_get}
use Rattle.std.specs.Option.{option_and_then, option_map_or, option_to_list}
use Rattle.std.proofs.lemmas.List.Edits.{length-remove}
use Rattle.std.proofs.lemmas.Option.{slice_get-map, slice_get_within}
use Rattle.number_windows.specs.Numbered.{at, changed_at, first_number, next_number, Ascending, Below}
use Rattle.number_windows.proofs.Numbered.{below_more}
use Rattle.number_windows.proofs.Rows.{at_changed}
use Rattle.conversation_ids.specs.Marks.{mark_of, null_mark}
use Rattle.conversation_ids.specs.OwedMarks.{entry_has, has_mark, is_mark, marks_have, request_has}
use Rattle.conversation_contents.proofs.Behind.{behind_last, behind_next, next_there}
use Rattle.conversation_contents.proofs.Lists.{among_is, any_of_two, any_position, any_removed, at-left, at_index, changed_left, left_among, one_more_left, remove-left, same_length, still_left, still_read, stands_there}
use Rattle.conversation_contents.proofs.Cases.{if_err, if_ok}
use Rattle.conversation_contents.proofs.Places.{lowest_there, no_lowest, noted_less}
use Rattle.conversation_contents.specs.Entries.{AreAmong, HaveLost, IsIndexOf, IsTold, IsToldOf, entries_among}
use Rattle.conversation_contents.specs.Left.{IsFindable, IsLeftOf, has_key, holds, index_in, index_of, is_key, left_entries, must_mark, places_of, values_of, behind}
use Rattle.conversation_contents.specs.Settled.{IsSettled, IsSettledAt, and_removed, is_empty, owed_at}
use Rattle.conversation_contents.specs.declared.look.Look.{Look}
use Rattle.conversation_contents.specs.declared.look.Look.TheVariants.{Allows, Expects}
use Rattle.conversation_contents.specs.declared.look.Taking.TheVariants.{Must}
use Rattle.conversation_contents.specs.declared.taken.Settled.{Settled}
use Rattle.conversation_contents.specs.declared.taken.Taken.{Taken}
use Rattle.conversation_contents.specs.declared.what_is_left.Left.{Left}
use Rattle.conversation_reading.specs.declared.entry.WrittenId.{WrittenId}
use Rattle.conversation_reading.specs.declared.entry.WrittenId.TheVariants.{Null}
use Rattle.conversation_rules.specs.Dues.{cancelled, fit_in, fit_of}
use Rattle.conversation_rules.specs.Matching.{is_request_for}
use Rattle.conversation_rules.specs.Owed.{Owed, Due}

-- ---- one has gone

pub lost_by : (taken : Taken) (owed : Owed) (was now : List Owed) → IsTold owed taken → length now < length was → ((p : Owed → Bool) → list_any p was ≡ (p owed || list_any p now)) → HaveLost taken.marks was now
lost_by taken owed was now told less any = record {
  less = less;
  entry = λ mark. any (entry_has mark) ∙ ap (λ b. b || list_any (entry_has mark) now) (sym (told.entry mark));
  request = λ mark. any (request_has mark) ∙ ap (λ b. b || list_any (request_has mark) now) (sym (told.request mark));
}

-- ---- each is changed

pub among_cancelled : (f : Owed → Owed) (was now : List Owed) (index : Option Left) → AreAmong was index → now ≡ map f was → entries_among now index ≡ map f (entries_among was index)
among_cancelled f was now None are is = is
among_cancelled f was now (Some left) are is =
    ap (λ slots. entries_among slots (Some left)) is
    ∙ among_is (slice_get (map f was)) (places_of left) (map f (entries_among was (Some left))) (changed_left f was (places_of left) (entries_among was (Some left)) are.places)

-- a cancel leaves no key that wasn't there
less_must : (settles : Bool) (key : ℕ) (must : Bool) (expected : Option ℕ) → is_key Must key (if must && not settles then expected else None) ≡ true → is_key Must key (if must then expected else None) ≡ true
less_must settles key false expected is = is
less_must true key true expected is = absurd (let e : false ≡ true = is in cc)
less_must false key true expected is = is

either_less : (a b c : Bool) → (a ≡ true → b ≡ true) → (a || c) ≡ true → (b || c) ≡ true
either_less true b c less is = ap (λ x. x || c) (less refl)
either_less false true c less is = refl
either_less false false c less is = is

less_keys : (settles : Bool) (id : WrittenId) (key : ℕ) (owed : Owed) → has_key key (cancelled settles id owed) ≡ true → has_key key owed ≡ true
less_keys settles id key owed has = from (is_request_for id owed) has
  where
    from : (b : Bool) → has_key key (if b then record owed { is_cancelled = true; must = owed.must && not settles } else owed) ≡ true → has_key key owed ≡ true
    from true it = either_less _ (is_key Must key (must_mark owed)) _ (less_must settles key owed.must (option_map mark_of owed.expected)) it
    from false it = it

tested : (settles : Bool) (id : WrittenId) (key : ℕ) (o : Option Owed) → option_map_or (has_key key) (option_map (cancelled settles id) o) false ≡ true → option_map_or (has_key key) o false ≡ true
tested settles id key None is = is
tested settles id key (Some owed) is = less_keys settles id key owed is

pub still_among_cancelled : (settles : Bool) (id : WrittenId) (was now : List Owed) (index : Option Left) → AreAmong was index → now ≡ map (cancelled settles id) was → AreAmong now index
still_among_cancelled settles id was now None are is = tt
still_among_cancelled settles id was now (Some left) are is = subst (λ slots. IsIndexOf slots left) (sym is) (record {
  findable = record {
    window = are.findable.window;
    above = are.findable.above;
    noted = noted_less (slice_get was) (slice_get (map (cancelled settles id) was)) left.marks (left_entries left) are.findable.noted
        (λ number place there key holds. tested settles id key (slice_get was place) (sym (ap (λ o. option_map_or (has_key key) o false) (slice_get-map (cancelled settles id) was place)) ∙ holds));
  };
  below = subst (λ n. Below (n + 1) (left_entries left)) (sym (as_long was)) are.below;
  places = left_among (slice_get (map (cancelled settles id) was)) (places_of left) (map (cancelled settles id) (entries_among was (Some left)))
      (changed_left (cancelled settles id) was (places_of left) (entries_among was (Some left)) are.places);
})
  where
    as_long : (xs : List Owed) → length (map (cancelled settles id) xs) ≡ length xs
    as_long [] = refl
    as_long (x ∷ xs) = ap suc (as_long xs)

-- ---- what is told

pub told_of_none : (o : Option Owed) (taken : Option Taken) → o ≡ None → taken ≡ None → IsToldOf o taken
told_of_none o taken none nothing = subst (λ p. IsToldOf p taken) (sym none) (subst (λ t. IsToldOf None t) (sym nothing) tt)

pub told_of_some : (o : Option Owed) (owed : Owed) (taken : Taken) → o ≡ Some owed → IsTold owed taken → IsToldOf o (Some taken)
told_of_some o owed taken is told = subst (λ p. IsToldOf p (Some taken)) (sym is) told

-- ---- the places, one behind another

next_by : (after number : ℕ) (es : List (ℕ × ℕ)) → Ascending es → Some number ≡ next_number after es → (o : Option ℕ) → at number es ≡ o → is_some o ≡ true → values_of (behind after es) ≡ option_to_list o ++ values_of (behind number es)
next_by after number es order is None there some = cc
next_by after number es order is (Some place) there some = ap values_of (behind_next after number place es order is there)

pub next_put : (after number : ℕ) (es : List (ℕ × ℕ)) (was now : List ℕ) → Ascending es → Some number ≡ next_number after es → now ≡ was ++ option_to_list (at number es) → now ++ values_of (behind number es) ≡ was ++ values_of (behind after es)
next_put after number es was now order is one =
    ap (λ ps. ps ++ values_of (behind number es)) one
    ∙ append_assoc was (option_to_list (at number es)) (values_of (behind number es))
    ∙ ap (λ ps. was ++ ps) (sym (next_by after number es order is (at number es) refl (next_there after number es is)))

append_none : {X : Type 0} (xs : List X) → xs ≡ xs ++ []
append_none [] = refl
append_none (x ∷ xs) = ap (λ ys. x ∷ ys) (append_none xs)

pub all_put : (after : ℕ) (es : List (ℕ × ℕ)) (places : List ℕ) → None ≡ next_number after es → places ≡ places ++ values_of (behind after es)
all_put after es places none = append_none places ∙ ap (λ xs. places ++ values_of xs) (sym (behind_last after es none))

-- ---- what an index has

is_there : (left : Left) (o : Option ℕ) → is_some o ≡ is_some (index_in left o)
is_there left None = refl
is_there left (Some number) = refl

pub any_found : (slots : List Owed) (left : Left) (look : Look) (id : WrittenId) (result : Option ℕ) → IsLeftOf (slice_get slots) (places_of left) (entries_among slots (Some left)) →
    ((all : List Owed) → IsLeftOf (slice_get slots) (places_of left) all → index_in left result ≡ position (holds look id) all) → is_some result ≡ list_any (holds look id) (entries_among slots (Some left))
any_found slots left look id result stands found =
    is_there left result ∙ ap is_some (found (entries_among slots (Some left)) stands) ∙ any_position (holds look id) (entries_among slots (Some left))

pub places_if_ok : {E : Type 0} (slots : List Owed) (left : Left) (r : Result (Vec ℕ Global) E) → IsLeftOf (slice_get slots) (places_of left) (entries_among slots (Some left)) → IfOk r (λ places. places.items ≡ places_of left) →
    IfOk r (λ places. IsLeftOf (slice_get slots) places.items (entries_among slots (Some left)))
places_if_ok slots left (Ok places) stands is = ap (map (slice_get slots)) is ∙ stands
places_if_ok slots left (Err error) stands is = tt

pub all_indexed : (slots : List Owed) (places : List ℕ) (left : Left) → map (slice_get slots) (places_of left) ≡ map Some slots → places_of left ≡ places → IsFindable (slice_get slots) left → Below (length places + 1) (left_entries left) → IsIndexOf slots left
all_indexed slots places left all is findable below = record {
  findable = findable;
  below = subst (λ n. Below (n + 1) (left_entries left)) (ap length (sym is) ∙ same_length (slice_get slots) (places_of left) slots all) below;
  places = left_among (slice_get slots) (places_of left) slots all;
}

-- ---- one is taken

pub taken_among : (slots : List Owed) (was now : Left) (k : ℕ) → IsLeftOf (slice_get slots) (places_of was) (entries_among slots (Some was)) → places_of now ≡ remove (places_of was) k → entries_among slots (Some now) ≡ remove (entries_among slots (Some was)) k
taken_among slots was now k stands is =
    ap (filter_map (slice_get slots)) is
    ∙ among_is (slice_get slots) (remove (places_of was) k) (remove (entries_among slots (Some was)) k) (remove-left (slice_get slots) (places_of was) (entries_among slots (Some was)) k stands)

pub taken_indexed : (slots : List Owed) (was now : Left) (k : ℕ) → IsIndexOf slots was → places_of now ≡ remove (places_of was) k → IsFindable (slice_get slots) now → ((bound : ℕ) → Below bound (left_entries was) → Below bound (left_entries now)) → IsIndexOf slots now
taken_indexed slots was now k index is findable below = record {
  findable = findable;
  below = below (length slots + 1) index.below;
  places = left_among (slice_get slots) (places_of now) (remove (entries_among slots (Some was)) k)
      (ap (map (slice_get slots)) is ∙ remove-left (slice_get slots) (places_of was) (entries_among slots (Some was)) k index.places);
}

shorter : (was : List Owed) (k : ℕ) (now : List Owed) (owed : Owed) → slice_get was k ≡ Some owed → now ≡ remove was k → length now < length was
shorter was k now owed there is =
    let e : length (remove was k) + 1 ≡ length was = length-remove was k (slice_get_within was k owed there) in
    let f : length now ≡ length (remove was k) = ap length is in
    omega (arith, e, f)

pub popped : (was : List Owed) (k : ℕ) (now : List Owed) (owed : Owed) (result : Option Taken) → slice_get was k ≡ Some owed → IsToldOf (slice_get was k) result → now ≡ remove was k → MatchOption result (was ≡ []) (λ taken. HaveLost taken.marks was now)
popped was k now owed result there told is = from result (subst (λ o. IsToldOf o result) there told)
  where
    from : (r : Option Taken) → IsToldOf (Some owed) r → MatchOption r (was ≡ []) (λ taken. HaveLost taken.marks was now)
    from None it = absurd it
    from (Some taken) it = lost_by taken owed was now it (shorter was k now owed there is) (λ p. any_removed p was k owed there ∙ ap (λ es. p owed || list_any p es) (sym is))

pub lowest_read : (slots : List Owed) (left : Left) (number : ℕ) → IsLeftOf (slice_get slots) (places_of left) (entries_among slots (Some left)) → Some number ≡ first_number (left_entries left) →
    (owed : Owed) × (slice_get (entries_among slots (Some left)) (index_of number (left_entries left)) ≡ Some owed)
lowest_read slots left number stands is =
    let es = left_entries left in
    let all = entries_among slots (Some left) in
    let there = lowest_there number es is in
    let owed = stands_there (slice_get slots) es all number there.0 stands there.1 in
    (owed.0, sym (at-left (slice_get slots) (places_of left) all (index_of number es) stands) ∙ ap (option_and_then (slice_get slots)) (at_index number es ∙ there.1) ∙ owed.1)

pub none_among : (slots : List Owed) (left : Left) → None ≡ first_number (left_entries left) → entries_among slots (Some left) ≡ []
none_among slots left none = ap (filter_map (slice_get slots)) (no_lowest (left_entries left) none)

-- ---- one comes

pub findable_longer : (was : List Owed) (owed : Owed) (left : Left) → IsIndexOf was left → IsFindable (slice_get (was ++ owed ∷ [])) left
findable_longer was owed left index = record {
  window = index.findable.window;
  above = index.findable.above;
  noted = noted_less (slice_get was) (slice_get (was ++ owed ∷ [])) left.marks (left_entries left) index.findable.noted (λ number place there key holds.
      let one = stands_there (slice_get was) (left_entries left) (entries_among was (Some left)) number place index.places there in
      ap (λ o. option_map_or (has_key key) o false) (one.1 ∙ sym (still_read was owed place one.0 one.1)) ∙ holds);
}

pub longer_among : (was : List Owed) (owed : Owed) (left now : Left) → IsIndexOf was left → places_of now ≡ places_of left ++ length was ∷ [] → entries_among (was ++ owed ∷ []) (Some now) ≡ entries_among was (Some left) ++ owed ∷ []
longer_among was owed left now index is =
    ap (filter_map (slice_get (was ++ owed ∷ []))) is
    ∙ among_is (slice_get (was ++ owed ∷ [])) (places_of left ++ length was ∷ []) (entries_among was (Some left) ++ owed ∷ []) (one_more_left was owed (places_of left) (entries_among was (Some left)) index.places)

pub longer_same : (was : List Owed) (owed : Owed) (left now : Left) → IsIndexOf was left → left_entries now ≡ left_entries left → entries_among (was ++ owed ∷ []) (Some now) ≡ entries_among was (Some left)
longer_same was owed left now index is =
    ap (λ es. filter_map (slice_get (was ++ owed ∷ [])) (values_of es)) is
    ∙ among_is (slice_get (was ++ owed ∷ [])) (places_of left) (entries_among was (Some left)) (still_left was owed (places_of left) (entries_among was (Some left)) index.places)

longer_length : (was : List Owed) (owed : Owed) → length (was ++ owed ∷ []) ≡ length was + 1
longer_length [] owed = refl
longer_length (x ∷ was) owed = ap suc (longer_length was owed) ∙ (let e : suc (length was + 1) ≡ suc (length was) + 1 = omega arith in e)

pub indexed_longer : (was : List Owed) (owed : Owed) (left now : Left) → IsIndexOf was left → places_of now ≡ places_of left ++ length was ∷ [] → IsFindable (slice_get (was ++ owed ∷ [])) now → Below (length was + 1 + 1) (left_entries now) → IsIndexOf (was ++ owed ∷ []) now
indexed_longer was owed left now index is findable below = record {
  findable = findable;
  below = subst (λ n. Below (n + 1) (left_entries now)) (sym (longer_length was owed)) below;
  places = left_among (slice_get (was ++ owed ∷ [])) (places_of now) (entries_among was (Some left) ++ owed ∷ [])
      (ap (map (slice_get (was ++ owed ∷ []))) is ∙ one_more_left was owed (places_of left) (entries_among was (Some left)) index.places);
}

pub indexed_same : (was : List Owed) (owed : Owed) (left now : Left) → IsIndexOf was left → left_entries now ≡ left_entries left → IsFindable (slice_get (was ++ owed ∷ [])) now → IsIndexOf (was ++ owed ∷ []) now
indexed_same was owed left now index is findable = record {
  findable = findable;
  below = subst (λ es. Below (length (was ++ owed ∷ []) + 1) es) (sym is) (below_more (length was + 1) (length (was ++ owed ∷ []) + 1) (left_entries left) (let e = longer_length was owed in omega (arith, e)) index.below);
  places = left_among (slice_get (was ++ owed ∷ [])) (places_of now) (entries_among was (Some left))
      (ap (λ es. map (slice_get (was ++ owed ∷ [])) (values_of es)) is ∙ still_left was owed (places_of left) (entries_among was (Some left)) index.places);
}

-- what an addition to a list and to its index says, whether there was memory or not
pub push_ok : {E : Type 0} (r : Result (Unit {0}) E) (was items : List Owed) (owed : Owed) (index : Option Left) (left lent now : Left) (place : ℕ) → AreAmong was index → index ≡ Some left → lent ≡ left → items ≡ was ++ owed ∷ [] → place ≡ length was →
    OnOk r (places_of now ≡ places_of lent ++ place ∷ []) → OnOk r (entries_among items (Some now) ≡ entries_among was index ++ owed ∷ [])
push_ok r was items owed index left lent now place are is same longer count ok = if_ok r
    (λ e. ap (λ slots. entries_among slots (Some now)) longer
    ∙ longer_among was owed left now (subst (AreAmong was) is are) (e ∙ ap (λ l. places_of l ++ place ∷ []) same ∙ ap (λ n. places_of left ++ n ∷ []) count)
    ∙ ap (λ o. entries_among was o ++ owed ∷ []) (sym is)) ok

pub push_err : {E : Type 0} (r : Result (Unit {0}) E) (was items : List Owed) (owed : Owed) (index : Option Left) (left lent now : Left) → AreAmong was index → index ≡ Some left → lent ≡ left → items ≡ was ++ owed ∷ [] →
    OnErr r (left_entries now ≡ left_entries lent) → OnErr r (entries_among items (Some now) ≡ entries_among was index)
push_err r was items owed index left lent now are is same longer err = if_err r
    (λ e. ap (λ slots. entries_among slots (Some now)) longer
    ∙ longer_same was owed left now (subst (AreAmong was) is are) (e ∙ ap left_entries same)
    ∙ ap (λ o. entries_among was o) (sym is)) err

pub push_stands : {E : Type 0} (r : Result (Unit {0}) E) (was items slice : List Owed) (owed : Owed) (index : Option Left) (left lent now : Left) (place : ℕ) → AreAmong was index → index ≡ Some left → lent ≡ left → items ≡ was ++ owed ∷ [] → slice ≡ items →
    place ≡ length was → OnOk r (places_of now ≡ places_of lent ++ place ∷ []) → OnErr r (left_entries now ≡ left_entries lent) → IsFindable (slice_get slice) now → OnOk r (Below (place + 1 + 1) (left_entries now)) → IsIndexOf items now
push_stands (Ok u) was items slice owed index left lent now place are is same longer lended count ok err findable below =
    subst (λ slots. IsIndexOf slots now) (sym longer)
    (indexed_longer was owed left now (subst (AreAmong was) is are) (ok ∙ ap (λ l. places_of l ++ place ∷ []) same ∙ ap (λ n. places_of left ++ n ∷ []) count)
    (subst (λ slots. IsFindable (slice_get slots) now) (lended ∙ longer) findable) (subst (λ n. Below (n + 1 + 1) (left_entries now)) count below))
push_stands (Err error) was items slice owed index left lent now place are is same longer lended count ok err findable below =
    subst (λ slots. IsIndexOf slots now) (sym longer)
    (indexed_same was owed left now (subst (AreAmong was) is are) (err ∙ ap left_entries same) (subst (λ slots. IsFindable (slice_get slots) now) (lended ∙ longer) findable))

pub one_less : (was now : List Owed) (owed : Owed) → was ≡ now ++ owed ∷ [] → length now < length was
one_less was now owed is =
    let e : length was ≡ length now + 1 = ap length is ∙ longer_length now owed in
    omega (arith, e)

-- ---- by the marks of entries

in_turn : (e f o n : Bool) → (e || (f || (o || n))) ≡ (f || (o || (e || n)))
in_turn true true o n = refl
in_turn true false true n = refl
in_turn true false false n = refl
in_turn false f o n = refl

any_marked : (mark : ℕ) (entries : List Owed) → (list_any (holds (Expects mark) Null) entries || list_any (holds (Allows mark) Null) entries) ≡ list_any (entry_has mark) entries
any_marked mark entries =
    any_of_two (holds (Expects mark) Null) (holds (Allows mark) Null) (entry_has mark) entries
    (λ owed. in_turn (has_mark mark owed.expected) (has_mark mark owed.first) (has_mark mark owed.own) (owed.may_be_null && (null_mark == mark)))

first_of : (a b r : Bool) → a ≡ true → (a || b) ≡ r → a ≡ r
first_of true b r is all = all
first_of false b r is all = cc

other_of : (a b r : Bool) → a ≡ false → (a || b) ≡ r → b ≡ r
other_of true b r is all = cc
other_of false b r is all = all

pub then_first : (mark : ℕ) (result : Bool) (entries : List Owed) → result ≡ true → result ≡ list_any (holds (Expects mark) Null) entries → result ≡ list_any (entry_has mark) entries
then_first mark result entries holding is =
    is ∙ first_of (list_any (holds (Expects mark) Null) entries) (list_any (holds (Allows mark) Null) entries) (list_any (entry_has mark) entries) (sym is ∙ holding) (any_marked mark entries)

pub else_other : (mark : ℕ) (first result : Bool) (entries : List Owed) → first ≡ false → first ≡ list_any (holds (Expects mark) Null) entries → result ≡ list_any (holds (Allows mark) Null) entries → result ≡ list_any (entry_has mark) entries
else_other mark first result entries none is other =
    other ∙ other_of (list_any (holds (Expects mark) Null) entries) (list_any (holds (Allows mark) Null) entries) (list_any (entry_has mark) entries) (sym is ∙ none) (any_marked mark entries)

-- ---- what an entry that was taken says

pub told_some : (o : Option Owed) (taken : Taken) → IsToldOf o (Some taken) → (owed : Owed) × ((Some owed ≡ o) × IsTold owed taken)
told_some None taken told = absurd told
told_some (Some owed) taken told = (owed, (refl, told))

pub told_none : (o : Option Owed) → IsToldOf o None → None ≡ o
told_none None told = refl
told_none (Some owed) told = absurd told

pub settled_some : (due : Due) (place : ℕ) (taken : Taken) (settled : Settled) → IsToldOf (slice_get due.entries place) (Some taken) → settled.fit ≡ record { in_batch = due.is_batch; is_request = taken.is_request; is_cancelled = taken.is_cancelled } →
    settled.marks ≡ taken.marks → settled.is_last ≡ is_empty (and_removed place due) → IsSettled due place settled
settled_some due place taken settled told fit marks last =
    let one = told_some (slice_get due.entries place) taken told in
    record {
      owed = one.0;
      there = sym one.1.0;
      fit = fit
          ∙ ap (λ b. record { in_batch = due.is_batch; is_request = b; is_cancelled = taken.is_cancelled }) one.1.1.is_request
          ∙ ap (λ b. record { in_batch = due.is_batch; is_request = one.0.is_request; is_cancelled = b }) one.1.1.is_cancelled;
      entry = λ mark. ap (λ m. marks_have m mark) marks ∙ one.1.1.entry mark;
      request = λ mark. ap (λ m. is_mark m.request mark) marks ∙ one.1.1.request mark;
      last = last;
    }

-- ---- what is told of a content's entry

pub settled_there : (o : Option Due) (place : ℕ) (settled : Settled) → IsSettledAt o place (Some settled) → (due : Due) × ((o ≡ Some due) × IsSettled due place settled)
settled_there None place settled is = absurd is
settled_there (Some due) place settled is = (due, (refl, is))

pub settled_owed : (o : Option Due) (place : ℕ) (settled : Settled) (is : IsSettledAt o place (Some settled)) → (owed : Owed) × ((Some owed ≡ option_and_then (owed_at place) o)
    × (((mark : ℕ) → marks_have settled.marks mark ≡ entry_has mark owed) × ((mark : ℕ) → is_mark settled.marks.request mark ≡ request_has mark owed)))
settled_owed None place settled is = absurd is
settled_owed (Some due) place settled is = (is.owed, (sym is.there, (is.entry, is.request)))

pub settled_missing : (o : Option Due) (place : ℕ) → IsSettledAt o place None → None ≡ option_and_then (owed_at place) o
settled_missing None place is = refl
settled_missing (Some due) place is = sym is

pub settled_fit : (o : Option Due) (place : ℕ) (settled : Settled) → IsSettledAt o place (Some settled) → Some settled.fit ≡ option_and_then (fit_in place) o
settled_fit None place settled is = absurd is
settled_fit (Some due) place settled is = ap Some is.fit ∙ ap (option_map (fit_of due)) (sym is.there)

pub settled_none : (o : Option Due) (place : ℕ) → IsSettledAt o place None → None ≡ option_and_then (fit_in place) o
settled_none None place is = refl
settled_none (Some due) place is = ap (option_map (fit_of due)) (sym is)

-- whether the content is empty then
pub settled_last : (n place : ℕ) (es : List (ℕ × Due)) (settled : Settled) → IsSettledAt (at n es) place (Some settled) → settled.is_last ≡ option_map_or is_empty (at n (changed_at n (and_removed place) es)) false
settled_last n place es settled is =
    let one = settled_there (at n es) place settled is in
    one.1.1.last
    ∙ sym (ap (λ o. option_map_or is_empty o false) (at_changed n n (and_removed place) one.0 es one.1.0)
    ∙ ap (λ b. option_map_or is_empty (cond b (Some (and_removed place one.0)) (at n es)) false) (eq-eqb n n refl))
