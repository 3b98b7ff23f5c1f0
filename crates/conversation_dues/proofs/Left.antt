-- What the answers of an array leave of a batch.
use Rattle.std.proofs.Common.{◌≡◌, ◌&&◌, ◌||◌, ℕ, suc, ◌+◌, ◌<◌, List, [], ◌∷◌, ◌++◌, Bool, true, false, Option, Some, None, length, drop, get_or, position, map, filter, refl, ap, sym, subst, ◌∙◌, cond, if◌then◌else◌, option_map}
use Rattle.std.specs.Prelude.{not, option_and_then, is_some}
use Rattle.std.specs.List.{cons_option, remove, list_any}
use Rattle.std.specs.Option.{option_map_or}
use Rattle.conversation_dues.proofs.Steps.{drop_here}
use Rattle.conversation_contents.proofs.Lists.{position-first, remove-left}
use Rattle.conversation_reading.specs.declared.entry.WrittenId.{WrittenId}
use Rattle.conversation_rules.specs.Amounts.{same_id}
use Rattle.conversation_rules.specs.Dues.{ids_read}
use Rattle.conversation_rules.specs.Matching.{without_id, same_ids, taken_by, left_by, nulls_last, leaves_no_request}
use Rattle.conversation_rules.specs.Owed.{Owed, is_expected, may_have, has_id}
use Rattle.conversation_dues.specs.Left.{IsTaken, is_of, ids_of, all_taken, choice, expects_any, expected_of}
use Rattle.conversation_contents.specs.Left.{IsLeftOf}
use Rattle.conversation_dues.specs.declared.arrays.Which.{Which}
use Rattle.conversation_dues.specs.declared.arrays.Which.TheVariants.{Expected, Named, Nulls}

-- ---- ids, one after another

ids_of-by : (which : Which) (x : WrittenId) (b : Bool) (ids : List WrittenId) → (if b then x ∷ ids else ids) ≡ (if b then x ∷ [] else []) ++ ids
ids_of-by which x true ids = refl
ids_of-by which x false ids = refl

pub ids_of-more : (which : Which) (id : Option WrittenId) (ids : List (Option WrittenId)) → ids_of which (id ∷ ids) ≡ ids_of which (id ∷ []) ++ ids_of which ids
ids_of-more which None ids = refl
ids_of-more which (Some x) ids = ids_of-by which x (is_of which x) (ids_of which ids)

taken-by_place : (choose : WrittenId → List Owed → Option ℕ) (xs ys : List WrittenId) (left : List Owed) → ((now : List Owed) → all_taken choose (xs ++ ys) now ≡ option_and_then (all_taken choose ys) (all_taken choose xs now)) →
    (o : Option ℕ) → option_and_then (λ place. all_taken choose (xs ++ ys) (remove left place)) o ≡ option_and_then (all_taken choose ys) (option_and_then (λ place. all_taken choose xs (remove left place)) o)
taken-by_place choose xs ys left others None = refl
taken-by_place choose xs ys left others (Some place) = others (remove left place)

pub all_taken-append : (choose : WrittenId → List Owed → Option ℕ) (xs ys : List WrittenId) (left : List Owed) → all_taken choose (xs ++ ys) left ≡ option_and_then (all_taken choose ys) (all_taken choose xs left)
all_taken-append choose [] ys left = refl
all_taken-append choose (id ∷ xs) ys left = taken-by_place choose xs ys left (all_taken-append choose xs ys) (choose id left)

-- what holds on the way: these places are left, and the other ids end the same way
abbrev pub OnTheWay : (WrittenId → List Owed → Option ℕ) → (ℕ → Option Owed) → List ℕ → List WrittenId → Option (List Owed) → Type 0
OnTheWay choose at places rest end = (now : List Owed) × (IsLeftOf at places now × (all_taken choose rest now ≡ end))

pub going : (choose : WrittenId → List Owed → Option ℕ) (at : ℕ → Option Owed) (places : List ℕ) (one rest : List WrittenId) (now : List Owed) (end : Option (List Owed)) →
    all_taken choose (one ++ rest) now ≡ end → IsTaken at places true (all_taken choose one now) → OnTheWay choose at places rest end
going choose at places one rest now end is taken = by_one (all_taken choose one now) refl taken
  where
    by_one : (o : Option (List Owed)) → all_taken choose one now ≡ o → IsTaken at places true o → OnTheWay choose at places rest end
    by_one None e t = absurd (let f : true ≡ false = t in cc)
    by_one (Some next) e t = (next, (t.1, sym (ap (option_and_then (all_taken choose rest)) e) ∙ sym (all_taken-append choose one rest now) ∙ is))

pub stopped : (choose : WrittenId → List Owed → Option ℕ) (at : ℕ → Option Owed) (places : List ℕ) (one rest : List WrittenId) (now : List Owed) (end : Option (List Owed)) →
    all_taken choose (one ++ rest) now ≡ end → IsTaken at places false (all_taken choose one now) → IsTaken at places false end
stopped choose at places one rest now end is taken = by_one (all_taken choose one now) refl taken
  where
    by_one : (o : Option (List Owed)) → all_taken choose one now ≡ o → IsTaken at places false o → IsTaken at places false end
    by_one None e t =
        let none : None ≡ end = sym (ap (option_and_then (all_taken choose rest)) e) ∙ sym (all_taken-append choose one rest now) ∙ is in
        subst (IsTaken at places false) none refl
    by_one (Some next) e t = absurd (let f : false ≡ true = t.0 in cc)

pub arrived : (choose : WrittenId → List Owed → Option ℕ) (at : ℕ → Option Owed) (places : List ℕ) (rest : List WrittenId) (end : Option (List Owed)) → rest ≡ [] → OnTheWay choose at places rest end → IsTaken at places true end
arrived choose at places rest end none way =
    let e : Some way.0 ≡ end = sym (ap (λ ids. all_taken choose ids way.0) none) ∙ way.1.1 in
    subst (IsTaken at places true) e (refl, way.1.0)

-- ---- a choice

pub taken-must : (id : WrittenId) (left : List Owed) (index : ℕ) → position (λ owed. owed.must && is_expected id owed) left ≡ Some index → Some index ≡ taken_by id left
taken-must id left index e = sym (ap (λ o. option_map_or Some o (option_map_or Some (position (is_expected id) left) (position (may_have id) left))) e)

pub taken-rather : (id : WrittenId) (left : List Owed) (r : Option ℕ) → position (λ owed. owed.must && is_expected id owed) left ≡ None → r ≡ option_map_or Some (position (is_expected id) left) (position (may_have id) left) → r ≡ taken_by id left
taken-rather id left r none is = is ∙ sym (ap (λ o. option_map_or Some o (option_map_or Some (position (is_expected id) left) (position (may_have id) left))) none)

pub rather-expected : (id : WrittenId) (left : List Owed) (index : ℕ) → position (is_expected id) left ≡ Some index → Some index ≡ option_map_or Some (position (is_expected id) left) (position (may_have id) left)
rather-expected id left index e = sym (ap (λ o. option_map_or Some o (position (may_have id) left)) e)

pub rather-may : (id : WrittenId) (left : List Owed) (r : Option ℕ) → position (is_expected id) left ≡ None → r ≡ position (may_have id) left → r ≡ option_map_or Some (position (is_expected id) left) (position (may_have id) left)
rather-may id left r none is = is ∙ sym (ap (λ o. option_map_or Some o (position (may_have id) left)) none)

pub chosen : (choose : WrittenId → List Owed → Option ℕ) (at : ℕ → Option Owed) (places now : List ℕ) (id : WrittenId) (left : List Owed) (index : ℕ) → Some index ≡ choose id left → map at places ≡ map Some left → now ≡ remove places index →
    IsTaken at now true (all_taken choose (id ∷ []) left)
chosen choose at places now id left index is all here =
    subst (λ o. IsTaken at now true (option_and_then (λ place. Some (remove left place)) o)) is (refl, ap (map at) here ∙ remove-left at places left index all)

-- ---- an answer that the code gives

pub expected_choice : (which : Which) (id : WrittenId) (left : List Owed) (r : Option ℕ) → which ≡ Expected → r ≡ position (is_expected id) left → r ≡ choice which id left
expected_choice which id left r is here = here ∙ ap (λ w. choice w id left) (sym is)

-- one id more, of those that are left
pub ids_from : (which : Which) (ids : List (Option WrittenId)) (i : ℕ) (id : Option WrittenId) → i < length ids → id ≡ get_or ids i id → ids_of which (drop i ids) ≡ ids_of which (id ∷ []) ++ ids_of which (drop (i + 1) ids)
ids_from which ids i id lt is = ap (ids_of which) (drop_here ids i id lt is) ∙ ids_of-more which id (drop (i + 1) ids)

-- ---- a batch that can be answered

left_by-is : (ids : List WrittenId) (left : List Owed) → left_by ids left ≡ all_taken taken_by ids left
left_by-is [] left = refl
left_by-is (id ∷ ids) left = by_place left ids (left_by-is ids) (taken_by id left)
  where
    by_place : (left : List Owed) (ids : List WrittenId) → ((now : List Owed) → left_by ids now ≡ all_taken taken_by ids now) → (o : Option ℕ) →
        option_and_then (λ place. left_by ids (remove left place)) o ≡ option_and_then (λ place. all_taken taken_by ids (remove left place)) o
    by_place left ids others None = refl
    by_place left ids others (Some place) = others (remove left place)

-- the others first, and then those that are null
pub both_by : (ids : List (Option WrittenId)) (left : List Owed) → left_by (nulls_last (ids_read ids)) left ≡ option_and_then (all_taken (choice Nulls) (ids_of Nulls ids)) (all_taken (choice Named) (ids_of Named ids) left)
both_by ids left = left_by-is (nulls_last (ids_read ids)) left ∙ all_taken-append taken_by (ids_of Named ids) (ids_of Nulls ids) left

pub none_taken : (at : ℕ → Option Owed) (places : List ℕ) (o : Option (List Owed)) → IsTaken at places false o → o ≡ None
none_taken at places None t = refl
none_taken at places (Some now) t = absurd (let e : false ≡ true = t.0 in cc)

pub some_taken : (at : ℕ → Option Owed) (places : List ℕ) (o : Option (List Owed)) → IsTaken at places true o → (now : List Owed) × ((o ≡ Some now) × IsLeftOf at places now)
some_taken at places None t = absurd (let e : true ≡ false = t in cc)
some_taken at places (Some now) t = (now, (refl, t.1))

pub cannot_named : (unnamed : ℕ) (ids : List (Option WrittenId)) (left : List Owed) → all_taken (choice Named) (ids_of Named ids) left ≡ None → false ≡ option_map_or (leaves_no_request unnamed) (left_by (nulls_last (ids_read ids)) left) false
cannot_named unnamed ids left e = sym (ap (λ o. option_map_or (leaves_no_request unnamed) o false) (both_by ids left ∙ ap (option_and_then (all_taken (choice Nulls) (ids_of Nulls ids))) e))

pub cannot_nulls : (unnamed : ℕ) (ids : List (Option WrittenId)) (left now : List Owed) → all_taken (choice Named) (ids_of Named ids) left ≡ Some now → all_taken (choice Nulls) (ids_of Nulls ids) now ≡ None →
    false ≡ option_map_or (leaves_no_request unnamed) (left_by (nulls_last (ids_read ids)) left) false
cannot_nulls unnamed ids left now e f = sym (ap (λ o. option_map_or (leaves_no_request unnamed) o false) (both_by ids left ∙ ap (option_and_then (all_taken (choice Nulls) (ids_of Nulls ids))) e ∙ f))

pub can_be : (unnamed : ℕ) (ids : List (Option WrittenId)) (left now end : List Owed) → all_taken (choice Named) (ids_of Named ids) left ≡ Some now → all_taken (choice Nulls) (ids_of Nulls ids) now ≡ Some end →
    leaves_no_request unnamed end ≡ option_map_or (leaves_no_request unnamed) (left_by (nulls_last (ids_read ids)) left) false
can_be unnamed ids left now end e f = sym (ap (λ o. option_map_or (leaves_no_request unnamed) o false) (both_by ids left ∙ ap (option_and_then (all_taken (choice Nulls) (ids_of Nulls ids))) e ∙ f))

-- ---- just the ids that are expected

none_expected-by : (left : List Owed) (e : Option WrittenId) → same_ids [] (expected_of left) ≡ not (list_any expects_any left) → same_ids [] (cons_option e (expected_of left)) ≡ not (is_some e || list_any expects_any left)
none_expected-by left None others = others
none_expected-by left (Some id) others = refl

none_expected : (left : List Owed) → same_ids [] (expected_of left) ≡ not (list_any expects_any left)
none_expected [] = refl
none_expected (owed ∷ left) = none_expected-by left owed.expected (none_expected left)

-- the first id that is the same, and the entry that expects it
later_none : (owed : Owed) (left : List Owed) (o : Option ℕ) → owed.expected ≡ None → option_map (λ place. expected_of (remove left place)) o ≡ option_map (λ place. expected_of (remove (owed ∷ left) place)) (option_map suc o)
later_none owed left None is = refl
later_none owed left (Some place) is = ap Some (sym (ap (λ e. cons_option e (expected_of (remove left place))) is))

later_some : (owed : Owed) (left : List Owed) (y : WrittenId) (o : Option ℕ) → owed.expected ≡ Some y → option_map (λ rest. y ∷ rest) (option_map (λ place. expected_of (remove left place)) o) ≡ option_map (λ place. expected_of (remove (owed ∷ left) place)) (option_map suc o)
later_some owed left y None is = refl
later_some owed left y (Some place) is = ap Some (sym (ap (λ e. cons_option e (expected_of (remove left place))) is))

without-test : (id : WrittenId) (owed : Owed) (left : List Owed) (y : WrittenId) (b : Bool) → owed.expected ≡ Some y → without_id id (expected_of left) ≡ option_map (λ place. expected_of (remove left place)) (position (is_expected id) left) →
    (if b then Some (expected_of left) else option_map (λ rest. y ∷ rest) (without_id id (expected_of left))) ≡ option_map (λ place. expected_of (remove (owed ∷ left) place)) (cond b (Some 0) (option_map suc (position (is_expected id) left)))
without-test id owed left y true is others = refl
without-test id owed left y false is others = ap (option_map (λ rest. y ∷ rest)) others ∙ later_some owed left y (position (is_expected id) left) is

without-by : (id : WrittenId) (owed : Owed) (left : List Owed) (e : Option WrittenId) → owed.expected ≡ e → without_id id (expected_of left) ≡ option_map (λ place. expected_of (remove left place)) (position (is_expected id) left) →
    without_id id (cons_option e (expected_of left)) ≡ option_map (λ place. expected_of (remove (owed ∷ left) place)) (cond (has_id id e) (Some 0) (option_map suc (position (is_expected id) left)))
without-by id owed left None is others = others ∙ later_none owed left (position (is_expected id) left) is
without-by id owed left (Some y) is others = without-test id owed left y (same_id id y) is others

pub without-is : (id : WrittenId) (left : List Owed) → without_id id (expected_of left) ≡ option_map (λ place. expected_of (remove left place)) (position (is_expected id) left)
without-is id [] = refl
without-is id (owed ∷ left) =
    without-by id owed left owed.expected refl (without-is id left)
    ∙ ap (option_map (λ place. expected_of (remove (owed ∷ left) place))) (sym (position-first (is_expected id) owed left))

just-by : (ids : List WrittenId) (left : List Owed) → ((now : List Owed) → same_ids ids (expected_of now) ≡ option_map_or (λ end. not (list_any expects_any end)) (all_taken (choice Expected) ids now) false) → (o : Option ℕ) →
    option_map_or (same_ids ids) (option_map (λ place. expected_of (remove left place)) o) false ≡ option_map_or (λ end. not (list_any expects_any end)) (option_and_then (λ place. all_taken (choice Expected) ids (remove left place)) o) false
just-by ids left others None = refl
just-by ids left others (Some place) = others (remove left place)

just-is : (ids : List WrittenId) (left : List Owed) → same_ids ids (expected_of left) ≡ option_map_or (λ end. not (list_any expects_any end)) (all_taken (choice Expected) ids left) false
just-is [] left = none_expected left
just-is (id ∷ ids) left = ap (λ o. option_map_or (same_ids ids) o false) (without-is id left) ∙ just-by ids left (just-is ids) (position (is_expected id) left)

all_kept : (ids : List WrittenId) → filter (is_of Expected) ids ≡ ids
all_kept [] = refl
all_kept (id ∷ ids) = ap (λ rest. id ∷ rest) (all_kept ids)

pub just_these : (ids : List (Option WrittenId)) (left : List Owed) → same_ids (ids_read ids) (expected_of left) ≡ option_map_or (λ end. not (list_any expects_any end)) (all_taken (choice Expected) (ids_of Expected ids) left) false
just_these ids left = just-is (ids_read ids) left ∙ ap (λ read. option_map_or (λ end. not (list_any expects_any end)) (all_taken (choice Expected) read left) false) (sym (all_kept (ids_read ids)))

pub not_these : (ids : List (Option WrittenId)) (left : List Owed) → all_taken (choice Expected) (ids_of Expected ids) left ≡ None → false ≡ same_ids (ids_read ids) (expected_of left)
not_these ids left e = sym (just_these ids left ∙ ap (λ o. option_map_or (λ end. not (list_any expects_any end)) o false) e)

pub if_none_left : (ids : List (Option WrittenId)) (left now : List Owed) → all_taken (choice Expected) (ids_of Expected ids) left ≡ Some now → not (list_any expects_any now) ≡ same_ids (ids_read ids) (expected_of left)
if_none_left ids left now e = sym (just_these ids left ∙ ap (λ o. option_map_or (λ end. not (list_any expects_any end)) o false) e)
