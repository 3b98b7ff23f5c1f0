-- What isn't found by a mark isn't what is looked for.
use Rattle.std.proofs.Common.{◌≡◌, ◌⊎◌, inl, inr, ℕ, zero, suc, ◌==◌, ◌&&◌, ◌||◌, not, Bool, true, false, if◌then◌else◌, List, [], ◌∷◌, ◌++◌, Option, Some, None, refl, ap, sym, ◌∙◌, position, remove, filter, cond, option_map, eq-eqb}
use Rattle.std.specs.List.{list_any}
use Rattle.std.specs.Prelude.{count_by}
use Rattle.std.specs.Option.{IfSome, option_map_or, option_and_then, is_none}
use Rattle.std.proofs.lemmas.Bool.{false_from_ne_true}
use Rattle.conversation_dues.proofs.Left.{without-is}
use Rattle.conversation_contents.proofs.Lists.{position-first}
use Rattle.conversation_dues.specs.Answered.{is_answered}
use Rattle.conversation_dues.specs.Left.{expected_of}
use Rattle.conversation_dues.specs.declared.batches.Answer.{Answer}
use Rattle.conversation_dues.specs.declared.batches.Answer.TheVariants.{JustDue, Just, Possible}
use Rattle.conversation_ids.specs.Marks.{mark_of, null_mark}
use Rattle.conversation_ids.proofs.OneMark.{one_mark}
use Rattle.conversation_ids.specs.OwedMarks.{has_mark, entry_has, content_has, due_has}
use Rattle.conversation_open.specs.Open.{among_has, among_is_due, is_among, is_due_by}
use Rattle.conversation_open.specs.declared.among.Among.{Among as Sides}
use Rattle.conversation_open.specs.declared.among.Among.TheVariants.{Singles, Batches, All}
use Rattle.conversation_reading.specs.declared.entry.WrittenId.{WrittenId}
use Rattle.conversation_reading.specs.declared.entry.WrittenId.TheVariants.{Null, Text, Number}
use Rattle.conversation_rules.specs.Amounts.{is_null}
use Rattle.conversation_rules.specs.Dues.{ids_read}
use Rattle.conversation_rules.specs.Matching.{place_in, taken_by, left_by, nulls_last, same_ids, is_just, can_be_answered, leaves_no_request, expects_null, is_null_request, is_null_other, is_due_for, is_request_for, is_just_due}
use Rattle.conversation_rules.specs.Owed.{Owed, Due, has_id, is_expected, may_have}
use Rattle.conversation_ids.specs.Ways.{fits}
use Rattle.conversation_ids.specs.declared.ways.Way.{Way}
use Rattle.conversation_ids.specs.declared.ways.Way.TheVariants.{Must, Asks, Expects, MayHave, AsksWithNull, ExpectsNull, Unnamed, MayBeNull}

or_first : (a b : Bool) → a ≡ true → (a || b) ≡ true
or_first true b is = refl
or_first false b is = cc

or_second : (a b : Bool) → b ≡ true → (a || b) ≡ true
or_second true b is = refl
or_second false b is = is

and_second : (a b : Bool) → (a && b) ≡ true → b ≡ true
and_second true b both = both
and_second false b both = cc

either_of : (a b : Bool) (P : Type 0) → (a || b) ≡ true → (a ≡ true → P) → (b ≡ true → P) → P
either_of true b P is first second = first refl
either_of false b P is first second = second is

pub unless : (a b : Bool) → (b ≡ true → a ≡ true) → a ≡ false → b ≡ false
unless a b given no_a = false_from_ne_true b (λ is. absurd (let e : true ≡ false = sym (given is) ∙ no_a in cc))

-- ---- entries

same_found : (id : WrittenId) (e : Option WrittenId) → has_id id e ≡ true → has_mark (mark_of id) e ≡ true
same_found id None same = same
same_found id (Some other) same = eq-eqb (mark_of other) (mark_of id) (sym (one_mark id other same))

-- by another mark than that of the id that stands first
behind_first : (m : ℕ) (owed : Owed) → (has_mark m owed.own || (has_mark m owed.expected || (owed.may_be_null && (null_mark == m)))) ≡ true → entry_has m owed ≡ true
behind_first m owed is = or_second (has_mark m owed.first) (has_mark m owed.own || (has_mark m owed.expected || (owed.may_be_null && (null_mark == m)))) is

pub expected_found : (id : WrittenId) (owed : Owed) → is_expected id owed ≡ true → entry_has (mark_of id) owed ≡ true
expected_found id owed is =
    behind_first (mark_of id) owed
    (or_second (has_mark (mark_of id) owed.own) (has_mark (mark_of id) owed.expected || (owed.may_be_null && (null_mark == mark_of id)))
    (or_first (has_mark (mark_of id) owed.expected) (owed.may_be_null && (null_mark == mark_of id)) (same_found id owed.expected is)))

null_found : (owed : Owed) (id : WrittenId) → (owed.may_be_null && is_null id) ≡ true → (owed.may_be_null && (null_mark == mark_of id)) ≡ true
null_found owed Null is = by owed.may_be_null is
  where
    by : (b : Bool) → (b && true) ≡ true → (b && true) ≡ true
    by b is = is
null_found owed (Text t) is = absurd (let e : (owed.may_be_null && false) ≡ true = is in let f : false ≡ true = and_second owed.may_be_null false e in cc)
null_found owed (Number n) is = absurd (let e : (owed.may_be_null && false) ≡ true = is in let f : false ≡ true = and_second owed.may_be_null false e in cc)

pub may_found : (id : WrittenId) (owed : Owed) → may_have id owed ≡ true → entry_has (mark_of id) owed ≡ true
may_found id owed is =
    either_of (has_id id owed.first) (has_id id owed.own || (owed.may_be_null && is_null id)) (entry_has (mark_of id) owed ≡ true) is
    (λ first. or_first (has_mark (mark_of id) owed.first) (has_mark (mark_of id) owed.own || (has_mark (mark_of id) owed.expected || (owed.may_be_null && (null_mark == mark_of id))))
    (same_found id owed.first first))
    (λ other. behind_first (mark_of id) owed
    (either_of (has_id id owed.own) (owed.may_be_null && is_null id) ((has_mark (mark_of id) owed.own || (has_mark (mark_of id) owed.expected || (owed.may_be_null && (null_mark == mark_of id)))) ≡ true) other
    (λ own. or_first (has_mark (mark_of id) owed.own) (has_mark (mark_of id) owed.expected || (owed.may_be_null && (null_mark == mark_of id))) (same_found id owed.own own))
    (λ null. or_second (has_mark (mark_of id) owed.own) (has_mark (mark_of id) owed.expected || (owed.may_be_null && (null_mark == mark_of id)))
    (or_second (has_mark (mark_of id) owed.expected) (owed.may_be_null && (null_mark == mark_of id)) (null_found owed id null)))))

expects_by : (e : Option WrittenId) → option_map_or is_null e false ≡ true → has_mark null_mark e ≡ true
expects_by None is = is
expects_by (Some Null) is = refl
expects_by (Some (Text t)) is = cc
expects_by (Some (Number n)) is = cc

pub null_expected : (owed : Owed) → expects_null owed ≡ true → entry_has null_mark owed ≡ true
null_expected owed is =
    behind_first null_mark owed
    (or_second (has_mark null_mark owed.own) (has_mark null_mark owed.expected || (owed.may_be_null && (null_mark == null_mark)))
    (or_first (has_mark null_mark owed.expected) (owed.may_be_null && (null_mark == null_mark)) (expects_by owed.expected is)))

pub null_allowed : (owed : Owed) → owed.may_be_null ≡ true → entry_has null_mark owed ≡ true
null_allowed owed is =
    behind_first null_mark owed
    (or_second (has_mark null_mark owed.own) (has_mark null_mark owed.expected || (owed.may_be_null && (null_mark == null_mark)))
    (or_second (has_mark null_mark owed.expected) (owed.may_be_null && (null_mark == null_mark)) (by owed.may_be_null is)))
  where
    by : (b : Bool) → b ≡ true → (b && (null_mark == null_mark)) ≡ true
    by true is = refl
    by false is = cc

-- ---- contents

left_half : (a b : Bool) → (a || b) ≡ false → a ≡ false
left_half true b none = none
left_half false b none = refl

right_half : (a b : Bool) → (a || b) ≡ false → b ≡ false
right_half true b none = cc
right_half false b none = none

position_fails : (p fits : Owed → Bool) (entries : List Owed) → ((owed : Owed) → p owed ≡ false → fits owed ≡ false) → list_any p entries ≡ false → position fits entries ≡ None
position_fails p fits [] fails none = refl
position_fails p fits (owed ∷ entries) fails none =
    position-first fits owed entries
    ∙ ap (λ b. cond b (Some 0) (option_map suc (position fits entries))) (fails owed (left_half (p owed) (list_any p entries) none))
    ∙ ap (option_map suc) (position_fails p fits entries fails (right_half (p owed) (list_any p entries) none))

pub position_none : (mark : ℕ) (fits : Owed → Bool) (entries : List Owed) → ((owed : Owed) → entry_has mark owed ≡ false → fits owed ≡ false) → list_any (entry_has mark) entries ≡ false → position fits entries ≡ None
position_none mark fits entries fails none = position_fails (entry_has mark) fits entries fails none

pub any_none : (mark : ℕ) (fits : Owed → Bool) (entries : List Owed) → ((owed : Owed) → entry_has mark owed ≡ false → fits owed ≡ false) → list_any (entry_has mark) entries ≡ false → list_any fits entries ≡ false
any_none mark fits [] fails none = refl
any_none mark fits (owed ∷ entries) fails none =
    ap (λ b. b || list_any fits entries) (fails owed (left_half (entry_has mark owed) (list_any (entry_has mark) entries) none))
    ∙ any_none mark fits entries fails (right_half (entry_has mark owed) (list_any (entry_has mark) entries) none)

pub entries_none : (mark : ℕ) (due : Due) → due_has mark due ≡ false → list_any (entry_has mark) due.entries ≡ false
entries_none mark due none = right_half (content_has mark due) (list_any (entry_has mark) due.entries) none

pub content_none : (mark : ℕ) (due : Due) → due_has mark due ≡ false → content_has mark due ≡ false
content_none mark due none = left_half (content_has mark due) (list_any (entry_has mark) due.entries) none

pub place_none : (mark : ℕ) (batches : Bool) (fits : Owed → Bool) (due : Due) → ((owed : Owed) → entry_has mark owed ≡ false → fits owed ≡ false) → due_has mark due ≡ false → place_in batches fits due ≡ None
place_none mark batches fits due fails none = by (if batches then due.is_batch else not due.is_batch)
  where
    by : (b : Bool) → (if b then position fits due.entries else None) ≡ None
    by true = position_none mark fits due.entries fails (entries_none mark due none)
    by false = refl

-- what must be answered
due_found : (id : WrittenId) (owed : Owed) → is_due_by (mark_of id) owed ≡ false → is_due_for id owed ≡ false
due_found id owed none = unless (is_due_by (mark_of id) owed) (is_due_for id owed) (λ is. by owed.must (is_expected id owed) (has_mark (mark_of id) owed.expected) (same_found id owed.expected) is) none
  where
    by : (must expected has : Bool) → (expected ≡ true → has ≡ true) → (must && expected) ≡ true → (must && has) ≡ true
    by true expected has found is = found is
    by false expected has found is = is

pub due_none : (batches : Bool) (id : WrittenId) (due : Due) → list_any (is_due_by (mark_of id)) due.entries ≡ false → place_in batches (is_due_for id) due ≡ None
due_none batches id due none = by (if batches then due.is_batch else not due.is_batch)
  where
    by : (b : Bool) → (if b then position (is_due_for id) due.entries else None) ≡ None
    by true = position_fails (is_due_by (mark_of id)) (is_due_for id) due.entries (due_found id) none
    by false = refl

pub if_some : {X : Type 0} (P Q : X → Type 0) (o : Option X) → ((x : X) → P x → Q x) → IfSome o P → IfSome o Q
if_some P Q None more is = is
if_some P Q (Some x) more is = more x is

-- ---- where something is looked for

either_none : {P : Type 0} (a b : Bool) → (a ≡ false → P) → (b ≡ false → P) → (a && b) ≡ false → P
either_none true b first second none = second none
either_none false b first second none = first refl

pub awaited_none : {P : Type 0} (among : Sides) (mark : ℕ) (due : Due) → (is_among among due ≡ false → P) → (list_any (is_due_by mark) due.entries ≡ false → P) → among_is_due among mark due ≡ false → P
awaited_none among mark due outside unmarked none = either_none (is_among among due) (list_any (is_due_by mark) due.entries) outside unmarked none

pub among_none : {P : Type 0} (among : Sides) (mark : ℕ) (due : Due) → (is_among among due ≡ false → P) → (due_has mark due ≡ false → P) → among_has among mark due ≡ false → P
among_none Singles mark due outside unmarked none = either_none (not due.is_batch) (due_has mark due) outside unmarked none
among_none Batches mark due outside unmarked none = either_none due.is_batch (due_has mark due) outside unmarked none
among_none All mark due outside unmarked none = unmarked none

-- ---- arrays

abbrev Among : WrittenId → List WrittenId → Type 0
Among id [] = ⊥
Among id (other ∷ ids) = (other ≡ id) ⊎ Among id ids

among_behind : (id : WrittenId) (xs ys : List WrittenId) → Among id ys → Among id (xs ++ ys)
among_behind id [] ys among = among
among_behind id (x ∷ xs) ys among = inr (among_behind id xs ys among)

among_nulls : (id : WrittenId) (ids : List WrittenId) → Among id (nulls_last (id ∷ ids))
among_nulls id ids = by (is_null id)
  where
    by : (b : Bool) → Among id (cond (not b) (id ∷ filter (λ x. not (is_null x)) ids) (filter (λ x. not (is_null x)) ids) ++ cond b (id ∷ filter is_null ids) (filter is_null ids))
    by true = among_behind id (filter (λ x. not (is_null x)) ids) (id ∷ filter is_null ids) (inl refl)
    by false = inl refl

taken_none : (id : WrittenId) (entries : List Owed) → list_any (entry_has (mark_of id)) entries ≡ false → taken_by id entries ≡ None
taken_none id entries none =
    ap (λ o. option_map_or Some o (option_map_or Some (position (is_expected id) entries) (position (may_have id) entries)))
    (position_none (mark_of id) (λ owed. owed.must && is_expected id owed) entries
    (λ owed no. unless (entry_has (mark_of id) owed) (owed.must && is_expected id owed) (λ is. expected_found id owed (and_second owed.must (is_expected id owed) is)) no) none)
    ∙ ap (λ o. option_map_or Some o (position (may_have id) entries))
    (position_none (mark_of id) (is_expected id) entries (λ owed no. unless (entry_has (mark_of id) owed) (is_expected id owed) (expected_found id owed) no) none)
    ∙ position_none (mark_of id) (may_have id) entries (λ owed no. unless (entry_has (mark_of id) owed) (may_have id owed) (may_found id owed) no) none

removed_none : (p : Owed → Bool) (entries : List Owed) (place : ℕ) → list_any p entries ≡ false → list_any p (remove entries place) ≡ false
removed_none p [] zero none = none
removed_none p [] (suc place) none = none
removed_none p (owed ∷ entries) zero none = right_half (p owed) (list_any p entries) none
removed_none p (owed ∷ entries) (suc place) none =
    ap (λ b. b || list_any p (remove entries place)) (left_half (p owed) (list_any p entries) none) ∙ removed_none p entries place (right_half (p owed) (list_any p entries) none)

then_none : {X : Type 0} (f : ℕ → Option X) (o : Option ℕ) → ((n : ℕ) → f n ≡ None) → option_and_then f o ≡ None
then_none f None fails = refl
then_none f (Some n) fails = fails n

left_none : (id : WrittenId) (ids : List WrittenId) (entries : List Owed) → Among id ids → list_any (entry_has (mark_of id)) entries ≡ false → left_by ids entries ≡ None
left_none id [] entries among none = absurd among
left_none id (other ∷ ids) entries (inl same) none = ap (option_and_then (λ place. left_by ids (remove entries place))) (ap (λ i. taken_by i entries) same ∙ taken_none id entries none)
left_none id (other ∷ ids) entries (inr among) none = then_none (λ place. left_by ids (remove entries place)) (taken_by other entries) (λ place. left_none id ids (remove entries place) among (removed_none (entry_has (mark_of id)) entries place none))

and_none : (a b : Bool) → b ≡ false → (a && b) ≡ false
and_none true b is = is
and_none false b is = refl

just_none : (id : WrittenId) (ids : List WrittenId) (due : Due) → due_has (mark_of id) due ≡ false → is_just (id ∷ ids) due ≡ false
just_none id ids due none =
    and_none due.is_batch (same_ids (id ∷ ids) (expected_of due.entries))
    (ap (λ o. option_map_or (same_ids ids) o false)
    (without-is id due.entries
    ∙ ap (option_map (λ place. expected_of (remove due.entries place)))
    (position_none (mark_of id) (is_expected id) due.entries (λ owed no. unless (entry_has (mark_of id) owed) (is_expected id owed) (expected_found id owed) no) (entries_none (mark_of id) due none))))

possible_none : (id : WrittenId) (ids : List WrittenId) (unnamed : ℕ) (due : Due) → due_has (mark_of id) due ≡ false → can_be_answered (id ∷ ids) unnamed due ≡ false
possible_none id ids unnamed due none =
    and_none due.is_batch (option_map_or (leaves_no_request unnamed) (left_by (nulls_last (id ∷ ids)) due.entries) false)
    (ap (λ o. option_map_or (leaves_no_request unnamed) o false) (left_none id (nulls_last (id ∷ ids)) due.entries (among_nulls id ids) (entries_none (mark_of id) due none)))

pub unanswered_by : (answer : Answer) (ids : List (Option WrittenId)) (id : WrittenId) (others : List WrittenId) (due : Due) → ids_read ids ≡ id ∷ others → due_has (mark_of id) due ≡ false → is_answered answer ids due ≡ false
unanswered_by JustDue ids id others due is none =
    ap (λ read. is_just_due read due) is ∙ and_none (list_any (λ owed. owed.must) due.entries) (is_just (id ∷ others) due) (just_none id others due none)
unanswered_by Just ids id others due is none = ap (λ read. is_just read due) is ∙ just_none id others due none
unanswered_by Possible ids id others due is none = ap (λ read. can_be_answered read (count_by is_none ids) due) is ∙ possible_none id others (count_by is_none ids) due none

-- ---- each way, and what is looked for

abbrev way_mark : Way → WrittenId → ℕ
way_mark Must id = mark_of id
way_mark Asks id = mark_of id
way_mark Expects id = mark_of id
way_mark MayHave id = mark_of id
way_mark AsksWithNull id = null_mark
way_mark ExpectsNull id = null_mark
way_mark Unnamed id = null_mark
way_mark MayBeNull id = null_mark

other_none : (owed : Owed) → entry_has null_mark owed ≡ false → is_null_other owed ≡ false
other_none owed none = unless (entry_has null_mark owed) (is_null_other owed) (λ is. null_expected owed (and_second (not owed.is_request) (expects_null owed) is)) none

pub way_none : (way : Way) (id : WrittenId) (owed : Owed) → entry_has (way_mark way id) owed ≡ false → fits way id owed ≡ false
way_none Must id owed none = unless (entry_has (mark_of id) owed) (is_due_for id owed) (λ is. expected_found id owed (and_second owed.must (is_expected id owed) is)) none
way_none Asks id owed none = unless (entry_has (mark_of id) owed) (is_request_for id owed) (λ is. expected_found id owed (and_second owed.is_request (is_expected id owed) is)) none
way_none Expects id owed none = unless (entry_has (mark_of id) owed) (is_expected id owed) (expected_found id owed) none
way_none MayHave id owed none = unless (entry_has (mark_of id) owed) (may_have id owed) (may_found id owed) none
way_none AsksWithNull id owed none = unless (entry_has null_mark owed) (is_null_request owed) (λ is. null_expected owed (and_second owed.is_request (expects_null owed) is)) none
way_none ExpectsNull id owed none = other_none owed none
way_none Unnamed id owed none = ap (λ b. b && option_map_or is_null owed.own true) (other_none owed none)
way_none MayBeNull id owed none = unless (entry_has null_mark owed) owed.may_be_null (null_allowed owed) none

pub asked_none : (id : WrittenId) (due : Due) → due_has (mark_of id) due ≡ false → list_any (is_request_for id) due.entries ≡ false
asked_none id due none =
    any_none (mark_of id) (is_request_for id) due.entries (λ owed no_mark. way_none Asks id owed no_mark) (entries_none (mark_of id) due none)

pub cancelled_none : (id : WrittenId) (due : Due) → due_has (mark_of id) due ≡ false → list_any (λ owed. is_request_for id owed && owed.is_cancelled) due.entries ≡ false
cancelled_none id due none =
    any_none (mark_of id) (λ owed. is_request_for id owed && owed.is_cancelled) due.entries
    (λ owed no_mark. ap (λ b. b && owed.is_cancelled) (way_none Asks id owed no_mark)) (entries_none (mark_of id) due none)
