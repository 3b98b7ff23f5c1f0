-- The places that are left, by their numbers, and the keys under which they stand in an index.
use Rattle.std.proofs.Common.{◌≡◌, ℕ, zero, suc, ◌<◌, ◌≤◌, ◌==◌, ◌&&◌, ◌||◌, Bool, true, false, cond, if◌then◌else◌, List, [], ◌∷◌, ◌++◌, Option, Some, None, refl, ap, sym, subst, ◌∙◌, arith, nat_le, position, option_map, eq-eqb}
use Rattle.std.specs.Option.{option_map_or}
use Rattle.std.proofs.lemmas.Bool.{eqb-true, eqb-false, leb-true, leb-false, false_from_ne_true}
use Rattle.number_windows.specs.Numbered.{at, without, first_number, Above, Ascending}
use Rattle.number_windows.proofs.Numbered.{at_above}
use Rattle.number_windows.proofs.Rows.{at_come, at_gone}
use Rattle.conversation_ids.proofs.OneMark.{one_mark}
use Rattle.conversation_ids.specs.Marks.{mark_of, null_mark}
use Rattle.conversation_ids.specs.OwedMarks.{has_mark}
use Rattle.conversation_contents.proofs.Lists.{here, behind, position-first}
use Rattle.conversation_contents.proofs.Cases.{either_of}
use Rattle.conversation_contents.specs.Left.{IsNoted, allowed_null, allows, at_test, has_key, index_of, is_key, key_of, must_mark, values_of}
use Rattle.conversation_contents.specs.Numbers.{has_number, Keeps, IsSameBut}
use Rattle.conversation_contents.specs.declared.look.Taking.{Taking}
use Rattle.conversation_contents.specs.declared.look.Taking.TheVariants.{Must, Expected, Allowed}
use Rattle.conversation_contents.specs.declared.numbers_by_mark.NumbersByMark.{NumbersByMark}
use Rattle.conversation_reading.specs.declared.entry.WrittenId.{WrittenId}
use Rattle.conversation_reading.specs.declared.entry.WrittenId.TheVariants.{Null, Text, Number}
use Rattle.conversation_rules.specs.Amounts.{is_null}
use Rattle.conversation_rules.specs.Matching.{expects_null}
use Rattle.conversation_rules.specs.Owed.{Owed, has_id, is_expected, may_have}

-- ---- the first value that passes a test

pub position_none : {X : Type 0} (p : X → Bool) (es : List (ℕ × X)) → Ascending es → ((n : ℕ) (x : X) → at n es ≡ Some x → p x ≡ false) → position p (values_of es) ≡ None
position_none p [] order fails = refl
position_none p (e ∷ es) order fails =
    position-first p e.1 (values_of es)
    ∙ ap (λ b. cond b (Some 0) (option_map suc (position p (values_of es)))) (fails e.0 e.1 (here e es))
    ∙ ap (option_map suc) (position_none p es order.1 (λ n x is. fails n x (behind e es n x order.0 is)))

pub position_found : {X : Type 0} (p : X → Bool) (k : ℕ) (x : X) (es : List (ℕ × X)) → Ascending es → at k es ≡ Some x → p x ≡ true → ((n : ℕ) (y : X) → n < k → at n es ≡ Some y → p y ≡ false) → position p (values_of es) ≡ Some (index_of k es)
position_found p k x [] order is passes fails = absurd (cc)
position_found {X} p k x (e ∷ es) order is passes fails =
    position-first p e.1 (values_of es)
    ∙ from (k == e.0) refl is (λ it. position_found p k x es order.1 it passes (λ n y lt there. fails n y lt (behind e es n y order.0 there)))
  where
    from : (b : Bool) → (k == e.0) ≡ b → cond b (Some e.1) (at k es) ≡ Some x → (at k es ≡ Some x → position p (values_of es) ≡ Some (index_of k es)) →
        cond (p e.1) (Some 0) (option_map suc (position p (values_of es))) ≡ Some (if b then zero else suc (index_of k es))
    from true same it rest =
        let value : e.1 ≡ x = cc in
        ap (λ b. cond b (Some 0) (option_map suc (position p (values_of es)))) (ap p value ∙ passes)
    from false other it rest =
        ap (λ b. cond b (Some 0) (option_map suc (position p (values_of es)))) (fails e.0 e.1 (at_above e.0 k x es order.0 it) (here e es))
        ∙ ap (option_map suc) (rest it)

-- a test that passes wherever another one does
pub test_passes : {X : Type 0} (p q : X → Bool) (o : Option X) → ((x : X) → p x ≡ true → q x ≡ true) → option_map_or p o false ≡ true → option_map_or q o false ≡ true
test_passes p q None other is = is
test_passes p q (Some x) other is = other x is

-- ---- numbers under a mark, one behind another: what doesn't stand there doesn't pass

-- none passes up to this number
abbrev pub NonePasses : {X : Type 0} → (X → Bool) → ℕ → List (ℕ × X) → Type 0
NonePasses {X} p after es = (n : ℕ) (x : X) → n ≤ after → at n es ≡ Some x → p x ≡ false

-- each that passes has it
abbrev pub PassingHave : {X : Type 0} → (X → Bool) → (ℕ → Bool) → List (ℕ × X) → Type 0
PassingHave {X} p has es = (n : ℕ) (x : X) → at n es ≡ Some x → p x ≡ true → has n ≡ true

pub none_yet : {X : Type 0} (p : X → Bool) (es : List (ℕ × X)) → Above 0 es → NonePasses p 0 es
none_yet p es above = λ n x le there. absurd (let over : 0 < n = at_above 0 n x es above there in omega arith)

fails_without : {X : Type 0} (p : X → Bool) (has : ℕ → Bool) (es : List (ℕ × X)) (n : ℕ) (x : X) → PassingHave p has es → at n es ≡ Some x → has n ≡ false → p x ≡ false
fails_without p has es n x passing there none = false_from_ne_true (p x) (λ passes. absurd (let e : true ≡ false = sym (passing n x there passes) ∙ none in cc))

pub none_more : {X : Type 0} (p : X → Bool) (has : ℕ → Bool) (after number : ℕ) (es : List (ℕ × X)) → NonePasses p after es → PassingHave p has es → ((n : ℕ) → after < n → n < number → has n ≡ false) →
    option_map_or p (at number es) false ≡ false → NonePasses p number es
none_more {X} p has after number es before passing between fails = λ n x le there. from n x le there (nat_le n after) (n == number) refl refl
  where
    from : (n : ℕ) (x : X) → n ≤ number → at n es ≡ Some x → (low same : Bool) → nat_le n after ≡ low → (n == number) ≡ same → p x ≡ false
    from n x le there true same within is = before n x (leb-true n after within) there
    from n x le there false true beyond is = sym (ap (λ o. option_map_or p o false) (ap (λ k. at k es) (sym (eqb-true n number is)) ∙ there)) ∙ fails
    from n x le there false false beyond is =
        let differs : n ≡ number → ⊥ = eqb-false n number is in
        fails_without p has es n x passing there (between n (leb-false n after beyond) (omega arith))

pub none_passes : {X : Type 0} (p : X → Bool) (has : ℕ → Bool) (after : ℕ) (es : List (ℕ × X)) → Ascending es → NonePasses p after es → PassingHave p has es → ((n : ℕ) → after < n → has n ≡ false) → position p (values_of es) ≡ None
none_passes {X} p has after es order before passing behind_all = position_none p es order (λ n x there. from n x there (nat_le n after) refl)
  where
    from : (n : ℕ) (x : X) → at n es ≡ Some x → (low : Bool) → nat_le n after ≡ low → p x ≡ false
    from n x there true within = before n x (leb-true n after within) there
    from n x there false beyond = fails_without p has es n x passing there (behind_all n (leb-false n after beyond))

pub first_passes : {X : Type 0} (p : X → Bool) (has : ℕ → Bool) (after number : ℕ) (es : List (ℕ × X)) → Ascending es → NonePasses p after es → PassingHave p has es → ((n : ℕ) → after < n → n < number → has n ≡ false) →
    option_map_or p (at number es) false ≡ true → position p (values_of es) ≡ Some (index_of number es)
first_passes {X} p has after number es order before passing between passes = by_it (at number es) refl passes
  where
    earlier : (n : ℕ) (x : X) → n < number → at n es ≡ Some x → (low : Bool) → nat_le n after ≡ low → p x ≡ false
    earlier n x lt there true within = before n x (leb-true n after within) there
    earlier n x lt there false beyond = fails_without p has es n x passing there (between n (leb-false n after beyond) lt)

    by_it : (o : Option X) → at number es ≡ o → option_map_or p o false ≡ true → position p (values_of es) ≡ Some (index_of number es)
    by_it None there holds = absurd (cc)
    by_it (Some x) there holds = position_found p number x es order there holds (λ n y lt at_n. earlier n y lt at_n (nat_le n after) refl)

-- ---- the least number

pub lowest_there : {X : Type 0} (n : ℕ) (es : List (ℕ × X)) → Some n ≡ first_number es → (x : X) × (at n es ≡ Some x)
lowest_there n [] is = absurd (cc)
lowest_there n (e ∷ es) is =
    let same : n ≡ e.0 = cc in
    (e.1, ap (λ k. at k (e ∷ es)) same ∙ here e es)

pub no_lowest : {X : Type 0} (es : List (ℕ × X)) → None ≡ first_number es → values_of es ≡ []
no_lowest [] none = refl
no_lowest (e ∷ es) none = absurd (cc)

-- ---- the index after a change

pub none_noted : (entry : ℕ → Option Owed) (index : NumbersByMark) (es : List (ℕ × ℕ)) → es ≡ [] → IsNoted entry index es
none_noted entry index es none = λ number place is key holds. absurd (let e : None ≡ Some place = sym (ap (at number) none) ∙ is in cc)

-- an entry comes
pub noted_come : (entry : ℕ → Option Owed) (new old : NumbersByMark) (now was : List (ℕ × ℕ)) (number place : ℕ) → IsNoted entry old was → now ≡ was ++ (number, place) ∷ [] → at number was ≡ None →
    ((key : ℕ) → at_test (has_key key) entry place ≡ true → has_number new key number ≡ true) → Keeps new old → IsNoted entry new now
noted_come entry new old now was number place noted is none more kept = λ k spot at_k key holds.
    from k spot key holds (number == k) refl (sym (at_come number place was now is none k) ∙ at_k)
  where
    from : (k spot key : ℕ) → at_test (has_key key) entry spot ≡ true → (b : Bool) → (number == k) ≡ b → cond b (Some place) (at k was) ≡ Some spot → has_number new key k ≡ true
    from k spot key holds true same it =
        let value : place ≡ spot = cc in
        subst (λ n. has_number new key n ≡ true) (eqb-true number k same) (more key (ap (at_test (has_key key) entry) value ∙ holds))
    from k spot key holds false other it = kept key k (noted k spot it key holds)

-- none comes, and others may be noted
pub noted_more : (entry : ℕ → Option Owed) (new old : NumbersByMark) (es : List (ℕ × ℕ)) → IsNoted entry old es → Keeps new old → IsNoted entry new es
noted_more entry new old es noted kept = λ k spot at_k key holds. kept key k (noted k spot at_k key holds)

-- an entry goes
pub noted_gone : (entry : ℕ → Option Owed) (new old : NumbersByMark) (now was : List (ℕ × ℕ)) (number : ℕ) → IsNoted entry old was → now ≡ without number was → IsSameBut number new old → IsNoted entry new now
noted_gone entry new old now was number noted is same = λ k spot at_k key holds.
    from k spot key holds (number == k) refl (sym (at_gone number was now is k) ∙ at_k)
  where
    from : (k spot key : ℕ) → at_test (has_key key) entry spot ≡ true → (b : Bool) → (number == k) ≡ b → cond b None (at k was) ≡ Some spot → has_number new key k ≡ true
    from k spot key holds true gone it = absurd (cc)
    from k spot key holds false other it = same key k other ∙ noted k spot it key holds

-- what stands at the places has fewer keys, or is the same
pub noted_less : (entry other : ℕ → Option Owed) (index : NumbersByMark) (es : List (ℕ × ℕ)) → IsNoted entry index es → ((number place : ℕ) → at number es ≡ Some place → (key : ℕ) → at_test (has_key key) other place ≡ true → at_test (has_key key) entry place ≡ true) → IsNoted other index es
noted_less entry other index es noted less = λ k spot at_k key holds. noted k spot at_k key (less k spot at_k key holds)

-- ---- under which keys an entry is found

-- a number stands under the key of a mark, where there is one
abbrev pub HasUnder : NumbersByMark → Taking → ℕ → Option ℕ → Type 0
HasUnder index taking number mark = option_map_or (λ mark. has_number index (key_of taking mark) number) mark true ≡ true

pub still_under : (new old : NumbersByMark) (taking : Taking) (number : ℕ) (mark : Option ℕ) → Keeps new old → HasUnder old taking number mark → HasUnder new taking number mark
still_under new old taking number None kept has = has
still_under new old taking number (Some mark) kept has = kept (key_of taking mark) number has

under_key : (index : NumbersByMark) (taking : Taking) (number key : ℕ) (mark : Option ℕ) → HasUnder index taking number mark → is_key taking key mark ≡ true → has_number index key number ≡ true
under_key index taking number key None has is = absurd (let e : false ≡ true = is in cc)
under_key index taking number key (Some mark) has is = subst (λ k. has_number index k number ≡ true) (eqb-true (key_of taking mark) key is) has

pub all_noted : (index : NumbersByMark) (number : ℕ) (owed : Owed) → HasUnder index Must number (must_mark owed) → HasUnder index Expected number (option_map mark_of owed.expected) →
    HasUnder index Allowed number (option_map mark_of owed.first) → HasUnder index Allowed number (option_map mark_of owed.own) → HasUnder index Allowed number (allowed_null owed) →
    (key : ℕ) → has_key key owed ≡ true → has_number index key number ≡ true
all_noted index number owed must_is expected_is first_is own_is null_is key holds =
    either_of (is_key Must key (must_mark owed)) (is_key Expected key (option_map mark_of owed.expected) || (is_key Allowed key (option_map mark_of owed.first) || (is_key Allowed key (option_map mark_of owed.own) || is_key Allowed key (allowed_null owed))))
    (has_number index key number ≡ true) holds (under_key index Must number key (must_mark owed) must_is) (λ others.
    either_of (is_key Expected key (option_map mark_of owed.expected)) (is_key Allowed key (option_map mark_of owed.first) || (is_key Allowed key (option_map mark_of owed.own) || is_key Allowed key (allowed_null owed)))
    (has_number index key number ≡ true) others (under_key index Expected number key (option_map mark_of owed.expected) expected_is) (λ allowed.
    either_of (is_key Allowed key (option_map mark_of owed.first)) (is_key Allowed key (option_map mark_of owed.own) || is_key Allowed key (allowed_null owed))
    (has_number index key number ≡ true) allowed (under_key index Allowed number key (option_map mark_of owed.first) first_is) (λ last.
    either_of (is_key Allowed key (option_map mark_of owed.own)) (is_key Allowed key (allowed_null owed)) (has_number index key number ≡ true) last
    (under_key index Allowed number key (option_map mark_of owed.own) own_is) (under_key index Allowed number key (allowed_null owed) null_is))))

-- ---- the key of what is looked for

or_first : (a b : Bool) → a ≡ true → (a || b) ≡ true
or_first true b is = refl
or_first false b is = cc

or_second : (a b : Bool) → b ≡ true → (a || b) ≡ true
or_second true b is = refl
or_second false b is = is

pub and_second : (a b : Bool) → (a && b) ≡ true → b ≡ true
and_second true b both = both
and_second false b both = cc

pub and_first : (a b : Bool) → (a && b) ≡ true → a ≡ true
and_first true b both = refl
and_first false b both = cc

key_here : (taking : Taking) (mark : ℕ) (id : Option WrittenId) → has_mark mark id ≡ true → is_key taking (key_of taking mark) (option_map mark_of id) ≡ true
key_here taking mark None has = has
key_here taking mark (Some id) has = eq-eqb (key_of taking (mark_of id)) (key_of taking mark) (ap (key_of taking) (eqb-true (mark_of id) mark has))

marked : (id : WrittenId) (other : Option WrittenId) → has_id id other ≡ true → has_mark (mark_of id) other ≡ true
marked id None same = same
marked id (Some other) same = eq-eqb (mark_of other) (mark_of id) (sym (one_mark id other same))

pub expected_key : (mark : ℕ) (owed : Owed) → has_mark mark owed.expected ≡ true → has_key (key_of Expected mark) owed ≡ true
expected_key mark owed has =
    let key = key_of Expected mark in
    or_second (is_key Must key (must_mark owed)) _ (or_first (is_key Expected key (option_map mark_of owed.expected)) _ (key_here Expected mark owed.expected has))

pub id_key : (id : WrittenId) (owed : Owed) → is_expected id owed ≡ true → has_key (key_of Expected (mark_of id)) owed ≡ true
id_key id owed is = expected_key (mark_of id) owed (marked id owed.expected is)

must_here : (id : WrittenId) (must : Bool) (expected : Option WrittenId) → (must && has_id id expected) ≡ true → is_key Must (key_of Must (mark_of id)) (if must then option_map mark_of expected else None) ≡ true
must_here id true expected is = key_here Must (mark_of id) expected (marked id expected is)
must_here id false expected is = absurd (let e : false ≡ true = is in cc)

pub must_key : (id : WrittenId) (owed : Owed) → (owed.must && is_expected id owed) ≡ true → has_key (key_of Must (mark_of id)) owed ≡ true
must_key id owed is = or_first (is_key Must (key_of Must (mark_of id)) (must_mark owed)) _ (must_here id owed.must owed.expected is)

null_here : (mark : ℕ) (may : Bool) → (may && (null_mark == mark)) ≡ true → is_key Allowed (key_of Allowed mark) (if may then Some null_mark else None) ≡ true
null_here mark true is = is
null_here mark false is = is

pub allowed_key : (mark : ℕ) (owed : Owed) → allows mark owed ≡ true → has_key (key_of Allowed mark) owed ≡ true
allowed_key mark owed has =
    let key = key_of Allowed mark in
    let first = is_key Allowed key (option_map mark_of owed.first) in
    let own = is_key Allowed key (option_map mark_of owed.own) in
    let null = is_key Allowed key (allowed_null owed) in
    or_second (is_key Must key (must_mark owed)) _ (or_second (is_key Expected key (option_map mark_of owed.expected)) _
    (either_of (has_mark mark owed.first) (has_mark mark owed.own || (owed.may_be_null && (null_mark == mark))) ((first || (own || null)) ≡ true) has
    (λ by_first. or_first first _ (key_here Allowed mark owed.first by_first))
    (λ others. or_second first _
    (either_of (has_mark mark owed.own) (owed.may_be_null && (null_mark == mark)) ((own || null) ≡ true) others
    (λ by_own. or_first own _ (key_here Allowed mark owed.own by_own))
    (λ by_null. or_second own _ (null_here mark owed.may_be_null by_null))))))

null_test : (id : WrittenId) → is_null id ≡ true → (null_mark == mark_of id) ≡ true
null_test Null is = refl
null_test (Text text) is = absurd (let e : false ≡ true = is in cc)
null_test (Number digits) is = absurd (let e : false ≡ true = is in cc)

both : (a b : Bool) → a ≡ true → b ≡ true → (a && b) ≡ true
both true b first second = second
both false b first second = first

pub may_key : (id : WrittenId) (owed : Owed) → may_have id owed ≡ true → has_key (key_of Allowed (mark_of id)) owed ≡ true
may_key id owed has =
    let mark = mark_of id in
    allowed_key mark owed
    (either_of (has_id id owed.first) (has_id id owed.own || (owed.may_be_null && is_null id)) (allows mark owed ≡ true) has
    (λ by_first. or_first (has_mark mark owed.first) _ (marked id owed.first by_first))
    (λ others. or_second (has_mark mark owed.first) _
    (either_of (has_id id owed.own) (owed.may_be_null && is_null id) ((has_mark mark owed.own || (owed.may_be_null && (null_mark == mark))) ≡ true) others
    (λ by_own. or_first (has_mark mark owed.own) _ (marked id owed.own by_own))
    (λ by_null. or_second (has_mark mark owed.own) _
    (both owed.may_be_null (null_mark == mark) (and_first owed.may_be_null (is_null id) by_null) (null_test id (and_second owed.may_be_null (is_null id) by_null)))))))

null_expected : (id : Option WrittenId) → option_map_or is_null id false ≡ true → has_mark null_mark id ≡ true
null_expected None is = is
null_expected (Some Null) is = refl
null_expected (Some (Text text)) is = absurd (let e : false ≡ true = is in cc)
null_expected (Some (Number digits)) is = absurd (let e : false ≡ true = is in cc)

pub null_key : (owed : Owed) → expects_null owed ≡ true → has_key (key_of Expected null_mark) owed ≡ true
null_key owed is = expected_key null_mark owed (null_expected owed.expected is)

pub may_be_null_key : (owed : Owed) → owed.may_be_null ≡ true → has_key (key_of Allowed null_mark) owed ≡ true
may_be_null_key owed may =
    allowed_key null_mark owed
    (or_second (has_mark null_mark owed.first) _ (or_second (has_mark null_mark owed.own) _ (both owed.may_be_null (null_mark == null_mark) may (eq-eqb null_mark null_mark refl))))
