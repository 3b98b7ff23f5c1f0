-- Contents whose entries that must be answered are requests which no cancel has reached.
use Rattle.std.proofs.Common.{◌≡◌, ℕ, zero, suc, ◌==◌, ◌&&◌, ◌||◌, Bool, true, false, not, cond, if◌then◌else◌, List, [], ◌∷◌, ◌++◌, Option, Some, None, option_map, refl, ap, sym, ◌∙◌, map}
use Rattle.std.specs.List.{list_all, list_any, remove}
use Rattle.std.proofs.lemmas.List.Folds.{list_all-append}
use Rattle.number_windows.specs.Numbered.{at, without, changed_at}
use Rattle.number_windows.proofs.Rows.{at_come, at_gone}
use Rattle.conversation_ids.specs.Marks.{mark_of}
use Rattle.conversation_ids.specs.OwedMarks.{has_mark, entry_has, content_has, due_has, request_has, uncancelled_has}
use Rattle.conversation_open.specs.Open.{is_due_by, is_uncancelled_if_due, AreUncancelled}
use Rattle.conversation_contents.specs.Settled.{and_owed, and_removed}
use Rattle.conversation_open.proofs.Entries.{cancelled_before, parts_of, same_found, seen_by}
use Rattle.conversation_open.proofs.Noting.{and_no}
use Rattle.conversation_contents.proofs.Cases.{either_false}
use Rattle.conversation_open.proofs.Standing.{at_changed}
use Rattle.conversation_reading.specs.declared.entry.WrittenId.{WrittenId}
use Rattle.conversation_rules.specs.Dues.{cancelled, cancelled_in}
use Rattle.conversation_rules.specs.Matching.{is_request_for}
use Rattle.conversation_rules.specs.Owed.{Owed, Due, is_expected}

both_of : (a b : Bool) → a ≡ true → b ≡ true → (a && b) ≡ true
both_of true b is_a is_b = is_b
both_of false b is_a is_b = cc

-- ---- what must be answered is found among the uncancelled ones

due_request : (mark : ℕ) (owed : Owed) → is_uncancelled_if_due owed ≡ true → request_has mark owed ≡ false → is_due_by mark owed ≡ false
due_request mark owed is none = by owed.must owed.is_request owed.is_cancelled (has_mark mark owed.expected) is none
  where
    by : (m r c h : Bool) → (not m || (r && not c)) ≡ true → (r && (not c && h)) ≡ false → (m && h) ≡ false
    by true true false h is none = none
    by true true true h is none = absurd (let e : false ≡ true = is in cc)
    by true false c h is none = absurd (let e : false ≡ true = is in cc)
    by false r c h is none = refl

due_requests : (mark : ℕ) (entries : List Owed) → list_all is_uncancelled_if_due entries ≡ true → list_any (request_has mark) entries ≡ false → list_any (is_due_by mark) entries ≡ false
due_requests mark [] all none = refl
due_requests mark (owed ∷ entries) all none =
    let each = parts_of (is_uncancelled_if_due owed) (list_all is_uncancelled_if_due entries) all in
    let no = either_false (request_has mark owed) (list_any (request_has mark) entries) none in
    ap (λ b. b || list_any (is_due_by mark) entries) (due_request mark owed each.0 no.0) ∙ due_requests mark entries each.1 no.1

pub due_uncancelled : (mark : ℕ) (due : Due) → list_all is_uncancelled_if_due due.entries ≡ true → uncancelled_has mark due ≡ false → list_any (is_due_by mark) due.entries ≡ false
due_uncancelled mark due all none = due_requests mark due.entries all none

-- and among all
due_entry : (mark : ℕ) (owed : Owed) → entry_has mark owed ≡ false → is_due_by mark owed ≡ false
due_entry mark owed none =
    let behind_first = (either_false (has_mark mark owed.first) _ none).1 in
    let behind_own = (either_false (has_mark mark owed.own) _ behind_first).1 in
    ap (λ b. owed.must && b) (either_false (has_mark mark owed.expected) _ behind_own).0 ∙ and_no owed.must

due_entries : (mark : ℕ) (entries : List Owed) → list_any (entry_has mark) entries ≡ false → list_any (is_due_by mark) entries ≡ false
due_entries mark [] none = refl
due_entries mark (owed ∷ entries) none =
    let no = either_false (entry_has mark owed) (list_any (entry_has mark) entries) none in
    ap (λ b. b || list_any (is_due_by mark) entries) (due_entry mark owed no.0) ∙ due_entries mark entries no.1

pub due_marked : (mark : ℕ) (due : Due) → due_has mark due ≡ false → list_any (is_due_by mark) due.entries ≡ false
due_marked mark due none = due_entries mark due.entries (either_false (content_has mark due) (list_any (entry_has mark) due.entries) none).1

-- ---- a cancel that settles changes nothing in what another one has reached

settled_by : (settles b : Bool) (id : WrittenId) (owed : Owed) → is_request_for id owed ≡ b → is_uncancelled_if_due owed ≡ true → request_has (mark_of id) owed ≡ false →
    (if b then record owed { is_cancelled = true; must = owed.must && not settles } else owed) ≡ owed
settled_by settles false id owed is all none = refl
settled_by settles true id owed is all none =
    let parts = parts_of owed.is_request (is_expected id owed) is in
    let seen = seen_by owed.is_request owed.is_cancelled (has_mark (mark_of id) owed.expected) none parts.0 (same_found id owed.expected parts.1) in
    let kept = left owed.must owed.is_request owed.is_cancelled settles all seen in
    (λ i. record owed { is_cancelled = (sym seen) i; must = kept i })
  where
    left : (m r c s : Bool) → (not m || (r && not c)) ≡ true → c ≡ true → (m && not s) ≡ m
    left false r c s all seen = refl
    left true true true s all seen = absurd (let e : false ≡ true = all in cc)
    left true true false s all seen = absurd (let e : false ≡ true = seen in cc)
    left true false c s all seen = absurd (let e : false ≡ true = all in cc)

settled_each : (settles : Bool) (id : WrittenId) (entries : List Owed) → list_all is_uncancelled_if_due entries ≡ true → list_any (request_has (mark_of id)) entries ≡ false → map (cancelled settles id) entries ≡ entries
settled_each settles id [] all none = refl
settled_each settles id (owed ∷ entries) all none =
    let each = parts_of (is_uncancelled_if_due owed) (list_all is_uncancelled_if_due entries) all in
    let no = either_false (request_has (mark_of id) owed) (list_any (request_has (mark_of id)) entries) none in
    (λ i. settled_by settles (is_request_for id owed) id owed refl each.0 no.0 i ∷ settled_each settles id entries each.1 no.1 i)

-- where it settles, or where none is left due
pub fixed_by : (settles flag : Bool) (id : WrittenId) (due : Due) → (settles && not flag) ≡ false → (flag ≡ true → list_all is_uncancelled_if_due due.entries ≡ true) → uncancelled_has (mark_of id) due ≡ false → cancelled_in settles id due ≡ due
fixed_by false flag id due not_all kept none = cancelled_before id due none
fixed_by true true id due not_all kept none = ap (λ entries. record due { entries = entries }) (settled_each true id due.entries (kept refl) none)
fixed_by true false id due not_all kept none = absurd (let e : true ≡ false = not_all in cc)

-- ---- contents change at one number

uncancelled_at : (now was : List (ℕ × Due)) (number : ℕ) (here : Option Due) → AreUncancelled was → ((k : ℕ) → at k now ≡ cond (number == k) here (at k was)) →
    ((due : Due) → here ≡ Some due → list_all is_uncancelled_if_due due.entries ≡ true) → AreUncancelled now
uncancelled_at now was number here all changes is_here = λ k due there. from k due (number == k) (sym (changes k) ∙ there)
  where
    from : (k : ℕ) (due : Due) (b : Bool) → cond b here (at k was) ≡ Some due → list_all is_uncancelled_if_due due.entries ≡ true
    from k due true is = is_here due is
    from k due false is = all k due is

unwrapped : {a b : Due} → Some a ≡ Some b → a ≡ b
unwrapped is = cc

pub uncancelled_come : (now was : List (ℕ × Due)) (number : ℕ) (due : Due) → now ≡ was ++ (number, due) ∷ [] → at number was ≡ None → due.entries ≡ [] → AreUncancelled was → AreUncancelled now
uncancelled_come now was number due is none bare all =
    uncancelled_at now was number (Some due) all (at_come number due was now is none) (λ d same. ap (λ x. list_all is_uncancelled_if_due x.entries) (sym (unwrapped same)) ∙ ap (list_all is_uncancelled_if_due) bare)

pub uncancelled_gone : (now was : List (ℕ × Due)) (number : ℕ) → now ≡ without number was → AreUncancelled was → AreUncancelled now
uncancelled_gone now was number is all = uncancelled_at now was number None all (at_gone number was now is) (λ d same. cc)

uncancelled_changed : (now was : List (ℕ × Due)) (number : ℕ) (f : Due → Due) → now ≡ changed_at number f was → AreUncancelled was →
    ((due : Due) → list_all is_uncancelled_if_due due.entries ≡ true → list_all is_uncancelled_if_due (f due).entries ≡ true) → AreUncancelled now
uncancelled_changed now was number f is all stays =
    uncancelled_at now was number (option_map f (at number was)) all (at_changed now was number f is) (λ d same. from d (at number was) refl same)
  where
    from : (d : Due) (o : Option Due) → at number was ≡ o → option_map f o ≡ Some d → list_all is_uncancelled_if_due d.entries ≡ true
    from d None there same = cc
    from d (Some due) there same = ap (λ x. list_all is_uncancelled_if_due x.entries) (sym (unwrapped same)) ∙ stays due (all number due there)

-- an entry comes
more_of : (owed : Owed) (entries : List Owed) → is_uncancelled_if_due owed ≡ true → list_all is_uncancelled_if_due entries ≡ true → list_all is_uncancelled_if_due (entries ++ owed ∷ []) ≡ true
more_of owed entries is all =
    list_all-append is_uncancelled_if_due entries (owed ∷ [])
    ∙ both_of (list_all is_uncancelled_if_due entries) (is_uncancelled_if_due owed && true) all (both_of (is_uncancelled_if_due owed) true is refl)

pub uncancelled_owed : (now was : List (ℕ × Due)) (number : ℕ) (owed : Owed) (flag kept : Bool) → now ≡ changed_at number (and_owed owed) was → kept ≡ is_uncancelled_if_due owed → (flag ≡ true → AreUncancelled was) →
    (flag && kept) ≡ true → AreUncancelled now
uncancelled_owed now was number owed flag kept is same all both =
    let parts = parts_of flag kept both in
    uncancelled_changed now was number (and_owed owed) is (all parts.0) (λ due each. more_of owed due.entries (sym same ∙ parts.1) each)

-- and goes
less_of : (place : ℕ) (entries : List Owed) → list_all is_uncancelled_if_due entries ≡ true → list_all is_uncancelled_if_due (remove entries place) ≡ true
less_of zero [] all = all
less_of (suc place) [] all = all
less_of zero (owed ∷ entries) all = (parts_of (is_uncancelled_if_due owed) (list_all is_uncancelled_if_due entries) all).1
less_of (suc place) (owed ∷ entries) all =
    let each = parts_of (is_uncancelled_if_due owed) (list_all is_uncancelled_if_due entries) all in
    both_of (is_uncancelled_if_due owed) (list_all is_uncancelled_if_due (remove entries place)) each.0 (less_of place entries each.1)

pub uncancelled_removed : (now was : List (ℕ × Due)) (number place : ℕ) → now ≡ changed_at number (and_removed place) was → AreUncancelled was → AreUncancelled now
uncancelled_removed now was number place is all = uncancelled_changed now was number (and_removed place) is all (λ due each. less_of place due.entries each)

-- a cancel that settles reaches a content
settled_one : (settles b : Bool) (owed : Owed) → settles ≡ true → is_uncancelled_if_due owed ≡ true →
    is_uncancelled_if_due (if b then record owed { is_cancelled = true; must = owed.must && not settles } else owed) ≡ true
settled_one true true owed is all = ap (λ b. not b || (owed.is_request && false)) (and_no owed.must)
settled_one false true owed is all = absurd (let e : false ≡ true = is in cc)
settled_one settles false owed is all = all

settled_all : (settles : Bool) (id : WrittenId) (entries : List Owed) → settles ≡ true → list_all is_uncancelled_if_due entries ≡ true → list_all is_uncancelled_if_due (map (cancelled settles id) entries) ≡ true
settled_all settles id [] is all = all
settled_all settles id (owed ∷ entries) is all =
    let each = parts_of (is_uncancelled_if_due owed) (list_all is_uncancelled_if_due entries) all in
    both_of (is_uncancelled_if_due (cancelled settles id owed)) (list_all is_uncancelled_if_due (map (cancelled settles id) entries))
    (settled_one settles (is_request_for id owed) owed is each.0) (settled_all settles id entries is each.1)

pub uncancelled_settled : (now was : List (ℕ × Due)) (number : ℕ) (flag settles : Bool) (id : WrittenId) → now ≡ changed_at number (cancelled_in settles id) was → (flag ≡ true → AreUncancelled was) →
    (flag && settles) ≡ true → AreUncancelled now
uncancelled_settled now was number flag settles id is all both =
    let parts = parts_of flag settles both in
    uncancelled_changed now was number (cancelled_in settles id) is (all parts.0) (λ due each. settled_all settles id due.entries parts.1 each)
