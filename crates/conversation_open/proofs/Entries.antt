-- The marks of a content whose entries change.
use Rattle.std.proofs.Common.{◌≡◌, ℕ, suc, zero, ◌==◌, ◌&&◌, ◌||◌, Bool, true, false, not, if◌then◌else◌, List, [], ◌∷◌, ◌++◌, Option, Some, None, refl, ap, sym, ◌∙◌, map, eq-eqb}
use Rattle.std.proofs.lemmas.List.Folds.{list_any-append}
use Rattle.std.specs.Option.{option_map_or}
use Rattle.std.proofs.lemmas.Bool.{false_from_ne_true}
use Rattle.std.specs.List.{list_any, remove, slice_get}
use Rattle.conversation_ids.specs.Marks.{mark_of, null_mark}
use Rattle.conversation_ids.proofs.OneMark.{one_mark}
use Rattle.conversation_ids.specs.OwedMarks.{has_mark, entry_has, content_has, due_has, request_has, uncancelled_has}
use Rattle.conversation_contents.proofs.Cases.{either_false, either_of}
use Rattle.conversation_contents.specs.Settled.{and_owed, and_removed}
use Rattle.conversation_reading.specs.declared.entry.WrittenId.{WrittenId}
use Rattle.conversation_rules.specs.Amounts.{same_id}
use Rattle.conversation_rules.specs.Dues.{cancelled, cancelled_in}
use Rattle.conversation_rules.specs.Matching.{is_request_for}
use Rattle.conversation_rules.specs.Owed.{Owed, Due, is_expected}

or_first : (a b : Bool) → a ≡ true → (a || b) ≡ true
or_first true b is = refl
or_first false b is = cc

or_second : (a b : Bool) → b ≡ true → (a || b) ≡ true
or_second true b is = refl
or_second false b is = is

-- ---- one entry more

or_no : (a : Bool) → a ≡ (a || false)
or_no true = refl
or_no false = refl

or_last : (a b c : Bool) → (a || (b || c)) ≡ ((a || b) || c)
or_last true b c = refl
or_last false b c = refl

any_more : {X : Type 0} (p : X → Bool) (xs : List X) (x : X) → (list_any p xs || p x) ≡ list_any p (xs ++ x ∷ [])
any_more p xs x = ap (λ b. list_any p xs || b) (or_no (p x)) ∙ sym (list_any-append p xs (x ∷ []))

pub owed_marks : (mark : ℕ) (owed : Owed) (due : Due) → (due_has mark due || entry_has mark owed) ≡ due_has mark (and_owed owed due)
owed_marks mark owed due =
    sym (or_last (content_has mark due) (list_any (entry_has mark) due.entries) (entry_has mark owed)) ∙ ap (λ b. content_has mark due || b) (any_more (entry_has mark) due.entries owed)

pub owed_requests : (mark : ℕ) (owed : Owed) (due : Due) → (uncancelled_has mark due || request_has mark owed) ≡ uncancelled_has mark (and_owed owed due)
owed_requests mark owed due = any_more (request_has mark) due.entries owed

-- none at all
pub bare_marks : (mark : ℕ) (due : Due) → due.entries ≡ [] → content_has mark due ≡ due_has mark due
bare_marks mark due none = or_no (content_has mark due) ∙ ap (λ es. content_has mark due || list_any (entry_has mark) es) (sym none)

pub bare_requests : (mark : ℕ) (due : Due) → due.entries ≡ [] → false ≡ uncancelled_has mark due
bare_requests mark due none = ap (list_any (request_has mark)) (sym none)

-- ---- one entry less

any_removed : {X : Type 0} (p : X → Bool) (xs : List X) (place : ℕ) (x : X) → slice_get xs place ≡ Some x → list_any p xs ≡ (list_any p (remove xs place) || p x)
any_removed p [] place x there = absurd (let e : None ≡ Some x = there in cc)
any_removed p (y ∷ ys) zero x there = swapped (p y) (list_any p ys) ∙ ap (λ z. list_any p ys || p z) (let same : y ≡ x = cc in same)
  where
    swapped : (a b : Bool) → (a || b) ≡ (b || a)
    swapped true true = refl
    swapped true false = refl
    swapped false true = refl
    swapped false false = refl
any_removed p (y ∷ ys) (suc place) x there = ap (λ b. p y || b) (any_removed p ys place x there) ∙ or_last (p y) (list_any p (remove ys place)) (p x)

pub removed_marks : (mark place : ℕ) (due : Due) (owed : Owed) → slice_get due.entries place ≡ Some owed → due_has mark due ≡ (due_has mark (and_removed place due) || entry_has mark owed)
removed_marks mark place due owed there =
    ap (λ b. content_has mark due || b) (any_removed (entry_has mark) due.entries place owed there) ∙ or_last (content_has mark due) (list_any (entry_has mark) (remove due.entries place)) (entry_has mark owed)

pub removed_requests : (mark place : ℕ) (due : Due) (owed : Owed) → slice_get due.entries place ≡ Some owed → uncancelled_has mark due ≡ (uncancelled_has mark (and_removed place due) || request_has mark owed)
removed_requests mark place due owed there = any_removed (request_has mark) due.entries place owed there

pub removed_none : {X : Type 0} (xs : List X) (place : ℕ) → slice_get xs place ≡ None → remove xs place ≡ xs
removed_none [] zero none = refl
removed_none [] (suc place) none = refl
removed_none (x ∷ xs) zero none = cc
removed_none (x ∷ xs) (suc place) none = ap (λ ys. x ∷ ys) (removed_none xs place none)

-- ---- a cancel leaves the ids

cancelled-by : (mark : ℕ) (settles b : Bool) (owed : Owed) → entry_has mark (if b then record owed { is_cancelled = true; must = owed.must && not settles } else owed) ≡ entry_has mark owed
cancelled-by mark settles true owed = refl
cancelled-by mark settles false owed = refl

any_cancelled : (mark : ℕ) (settles : Bool) (id : WrittenId) (entries : List Owed) → list_any (entry_has mark) (map (cancelled settles id) entries) ≡ list_any (entry_has mark) entries
any_cancelled mark settles id [] = refl
any_cancelled mark settles id (owed ∷ entries) =
    ap (λ b. b || list_any (entry_has mark) (map (cancelled settles id) entries)) (cancelled-by mark settles (is_request_for id owed) owed)
    ∙ ap (λ b. entry_has mark owed || b) (any_cancelled mark settles id entries)

pub cancelled_marks : (mark : ℕ) (settles : Bool) (id : WrittenId) (due : Due) → due_has mark (cancelled_in settles id due) ≡ due_has mark due
cancelled_marks mark settles id due = ap (λ b. content_has mark due || b) (any_cancelled mark settles id due.entries)

-- nor does it bring back what it took
cancelled_request : (mark : ℕ) (settles b : Bool) (owed : Owed) → request_has mark (if b then record owed { is_cancelled = true; must = owed.must && not settles } else owed) ≡ true → request_has mark owed ≡ true
cancelled_request mark settles true owed holds = absurd (no owed.is_request holds)
  where
    no : (r : Bool) → (r && false) ≡ true → ⊥
    no true is = let e : false ≡ true = is in cc
    no false is = let e : false ≡ true = is in cc
cancelled_request mark settles false owed holds = holds

any_request : (mark : ℕ) (settles : Bool) (id : WrittenId) (entries : List Owed) → list_any (request_has mark) (map (cancelled settles id) entries) ≡ true → list_any (request_has mark) entries ≡ true
any_request mark settles id [] holds = holds
any_request mark settles id (owed ∷ entries) holds =
    either_of (request_has mark (cancelled settles id owed)) (list_any (request_has mark) (map (cancelled settles id) entries)) (list_any (request_has mark) (owed ∷ entries) ≡ true) holds
    (λ here. or_first (request_has mark owed) (list_any (request_has mark) entries) (cancelled_request mark settles (is_request_for id owed) owed here))
    (λ there. or_second (request_has mark owed) (list_any (request_has mark) entries) (any_request mark settles id entries there))

pub cancelled_requests : (mark : ℕ) (settles : Bool) (id : WrittenId) (due : Due) → uncancelled_has mark (cancelled_in settles id due) ≡ true → uncancelled_has mark due ≡ true
cancelled_requests mark settles id due holds = any_request mark settles id due.entries holds

-- ---- what a cancel takes is of its id's mark

pub second_of : (a b : Bool) → (a && b) ≡ true → b ≡ true
second_of true b both = both
second_of false b both = cc

one_of : (id : WrittenId) (mark : ℕ) (e : Option WrittenId) → option_map_or (same_id id) e false ≡ true → has_mark mark e ≡ true → (mark_of id == mark) ≡ true
one_of id mark None same holds = absurd (let e : false ≡ true = same in cc)
one_of id mark (Some other) same holds = ap (λ m. m == mark) (one_mark id other same) ∙ holds

lost_by : (mark : ℕ) (settles b : Bool) (id : WrittenId) (owed : Owed) → is_request_for id owed ≡ b → request_has mark owed ≡ true →
    (request_has mark (if b then record owed { is_cancelled = true; must = owed.must && not settles } else owed) || (mark_of id == mark)) ≡ true
lost_by mark settles true id owed is holds =
    or_second (owed.is_request && false) (mark_of id == mark)
    (one_of id mark owed.expected (second_of owed.is_request (is_expected id owed) is) (second_of (not owed.is_cancelled) (has_mark mark owed.expected) (second_of owed.is_request (not owed.is_cancelled && has_mark mark owed.expected) holds)))
lost_by mark settles false id owed is holds = or_first (request_has mark owed) (mark_of id == mark) holds

any_lost : (mark : ℕ) (settles : Bool) (id : WrittenId) (entries : List Owed) → list_any (request_has mark) entries ≡ true → (list_any (request_has mark) (map (cancelled settles id) entries) || (mark_of id == mark)) ≡ true
any_lost mark settles id [] holds = absurd (let e : false ≡ true = holds in cc)
any_lost mark settles id (owed ∷ entries) holds =
    let now = request_has mark (cancelled settles id owed) in
    let rest = list_any (request_has mark) (map (cancelled settles id) entries) in
    either_of (request_has mark owed) (list_any (request_has mark) entries) (((now || rest) || (mark_of id == mark)) ≡ true) holds
    (λ here. either_of now (mark_of id == mark) (((now || rest) || (mark_of id == mark)) ≡ true) (lost_by mark settles (is_request_for id owed) id owed refl here)
    (λ is. or_first (now || rest) (mark_of id == mark) (or_first now rest is)) (λ is. or_second (now || rest) (mark_of id == mark) is))
    (λ there. either_of rest (mark_of id == mark) (((now || rest) || (mark_of id == mark)) ≡ true) (any_lost mark settles id entries there)
    (λ is. or_first (now || rest) (mark_of id == mark) (or_second now rest is)) (λ is. or_second (now || rest) (mark_of id == mark) is))

pub lost_cancelled : (mark : ℕ) (settles : Bool) (id : WrittenId) (due : Due) → uncancelled_has mark due ≡ true → (uncancelled_has mark (cancelled_in settles id due) || (mark_of id == mark)) ≡ true
lost_cancelled mark settles id due holds = any_lost mark settles id due.entries holds

-- ---- what isn't found by a mark isn't changed by a cancel of an id with that

pub same_found : (id : WrittenId) (e : Option WrittenId) → option_map_or (same_id id) e false ≡ true → has_mark (mark_of id) e ≡ true
same_found id None same = same
same_found id (Some other) same = eq-eqb (mark_of other) (mark_of id) (sym (one_mark id other same))

-- by another mark than that of the id that stands first
behind_first : (m : ℕ) (owed : Owed) → (has_mark m owed.own || (has_mark m owed.expected || (owed.may_be_null && (null_mark == m)))) ≡ true → entry_has m owed ≡ true
behind_first m owed is = or_second (has_mark m owed.first) (has_mark m owed.own || (has_mark m owed.expected || (owed.may_be_null && (null_mark == m)))) is

pub request_found : (id : WrittenId) (owed : Owed) → is_request_for id owed ≡ true → entry_has (mark_of id) owed ≡ true
request_found id owed is =
    behind_first (mark_of id) owed
    (or_second (has_mark (mark_of id) owed.own) (has_mark (mark_of id) owed.expected || (owed.may_be_null && (null_mark == mark_of id)))
    (or_first (has_mark (mark_of id) owed.expected) (owed.may_be_null && (null_mark == mark_of id)) (same_found id owed.expected (second_of owed.is_request _ is))))

uncancelled-by : (settles b : Bool) (owed : Owed) → b ≡ false → (if b then record owed { is_cancelled = true; must = owed.must && not settles } else owed) ≡ owed
uncancelled-by settles true owed is = cc
uncancelled-by settles false owed is = refl

uncancelled_each : (settles : Bool) (id : WrittenId) (entries : List Owed) → list_any (entry_has (mark_of id)) entries ≡ false → map (cancelled settles id) entries ≡ entries
uncancelled_each settles id [] none = refl
uncancelled_each settles id (owed ∷ entries) none =
    ap (λ x. x ∷ map (cancelled settles id) entries)
    (uncancelled-by settles (is_request_for id owed) owed
    (false_from_ne_true (is_request_for id owed) (λ is. absurd (let e : true ≡ false = sym (or_first (entry_has (mark_of id) owed) (list_any (entry_has (mark_of id)) entries) (request_found id owed is)) ∙ none in cc))))
    ∙ ap (λ xs. owed ∷ xs) (uncancelled_each settles id entries
    (false_from_ne_true (list_any (entry_has (mark_of id)) entries) (λ is. absurd (let e : true ≡ false = sym (or_second (entry_has (mark_of id) owed) (list_any (entry_has (mark_of id)) entries) is) ∙ none in cc))))

pub uncancelled : (settles : Bool) (id : WrittenId) (due : Due) → due_has (mark_of id) due ≡ false → cancelled_in settles id due ≡ due
uncancelled settles id due none =
    ap (λ entries. record due { entries = entries }) (uncancelled_each settles id due.entries
    (false_from_ne_true (list_any (entry_has (mark_of id)) due.entries) (λ is. absurd (let e : true ≡ false = sym (or_second (content_has (mark_of id) due) (list_any (entry_has (mark_of id)) due.entries) is) ∙ none in cc))))

-- a request whose cancel was seen isn't changed by one that settles nothing
same_owed : (c m : Bool) (owed : Owed) → owed.is_cancelled ≡ c → c ≡ true → record owed { is_cancelled = true; must = owed.must && true } ≡ owed
same_owed c m owed is seen = (λ i. record owed { is_cancelled = (sym seen ∙ sym is) i; must = and_true owed.must i })
  where
    and_true : (b : Bool) → (b && true) ≡ b
    and_true true = refl
    and_true false = refl

pub seen_by : (r c x : Bool) → (r && (not c && x)) ≡ false → r ≡ true → x ≡ true → c ≡ true
seen_by true true x none is has = refl
seen_by true false x none is has = absurd (let e : true ≡ false = sym has ∙ none in cc)
seen_by false c x none is has = absurd (let e : false ≡ true = is in cc)

pub parts_of : (a b : Bool) → (a && b) ≡ true → (a ≡ true) × (b ≡ true)
parts_of true b both = (refl, both)
parts_of false b both = absurd (let e : false ≡ true = both in cc)

seen_before : (id : WrittenId) (owed : Owed) → request_has (mark_of id) owed ≡ false → cancelled false id owed ≡ owed
seen_before id owed none = from (is_request_for id owed) refl
  where
    from : (b : Bool) → is_request_for id owed ≡ b → (if b then record owed { is_cancelled = true; must = owed.must && true } else owed) ≡ owed
    from true is =
        let parts = parts_of owed.is_request (is_expected id owed) is in
        same_owed owed.is_cancelled owed.must owed refl (seen_by owed.is_request owed.is_cancelled (has_mark (mark_of id) owed.expected) none parts.0 (same_found id owed.expected parts.1))
    from false is = refl

each_before : (id : WrittenId) (entries : List Owed) → list_any (request_has (mark_of id)) entries ≡ false → map (cancelled false id) entries ≡ entries
each_before id [] none = refl
each_before id (owed ∷ entries) none =
    let parts = either_false (request_has (mark_of id) owed) (list_any (request_has (mark_of id)) entries) none in
    (λ i. seen_before id owed parts.0 i ∷ each_before id entries parts.1 i)

pub cancelled_before : (id : WrittenId) (due : Due) → uncancelled_has (mark_of id) due ≡ false → cancelled_in false id due ≡ due
cancelled_before id due none = ap (λ entries. record due { entries = entries }) (each_before id due.entries none)
