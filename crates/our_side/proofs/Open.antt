-- What is owed: how often each thing is asked.
use Rattle.std.proofs.Common.{◌≡◌, ◌⊎◌, inl, inr, ◌==◌, ◌||◌, ◌&&◌, not, ℕ, suc, ◌+◌, ◌≤◌, Bool, true, false, if◌then◌else◌, List, [], ◌∷◌, ◌++◌, map, length, position, Option, Some, None, option_map, refl, sym, ap, subst, ◌∙◌, arith}
use Rattle.std.proofs.lemmas.Bool.Decides.{nat_tests}
use Rattle.std.proofs.lemmas.List.Elements.{filter_map-append}
use Rattle.std.specs.Prelude.{⊤, slice_get, remove}
use Rattle.std.specs.List.{list_any, filter_map}
use Rattle.std.specs.Option.{option_map_or, option_to_list}
use Rattle.conversation_reading.specs.declared.entry.WrittenId.{WrittenId}
use Rattle.conversation_rules.specs.Dues as dues
use Rattle.conversation_rules.specs.Dues.{owed_more, is_open, closed, cancelled, cancelled_in, with_entries, settled_entry, fit_of}
use Rattle.conversation_rules.specs.Amounts.{is_null}
use Rattle.conversation_rules.specs.Matching.{place_in, later, oldest, is_request_for, expects_null, is_null_request, is_null_other, is_just, expected_ids}
use Rattle.conversation_rules.specs.Owed.{Owed, Due, unreadable_due, is_expected}
use Rattle.conversation_rules.specs.declared.found.Fit.{Fit}
use Rattle.conversation_rules.specs.declared.found.Found.TheVariants.{Entry as EntryFit}
use Rattle.conversation_rules.specs.declared.found.Target.TheVariants.{EntryOf}
use Rattle.judge_laws.proofs.Failures.{passed_by}
use Rattle.our_side.specs.Asked.{ArePlain, Question, alone, together, by_array, under_null, CanBeAsked, as_number, any_id, times, nulls, asked_from}
use Rattle.our_side.proofs.Below.{AllOf, all-append}
use Rattle.our_side.proofs.Matched.{first_place, next_place}

-- ---- what is expected

abbrev pub IsFew : List Owed → Type 0
IsFew [] = ⊤
IsFew (x ∷ []) = ⊤
IsFew (x ∷ y ∷ entries) = ⊥

-- Of a content alone there is an entry at most.
pub record IsOrderly (due : Due) : Type 0 where
  pub few : due.is_batch ≡ false → IsFew due.entries
  pub plain : ArePlain (expected_ids due)
  pub empty : due.is_unreadable ≡ true → (due.is_batch ≡ false) × (due.entries ≡ [])

abbrev pub AreOrderly : List Due → Type 0
AreOrderly owed = AllOf IsOrderly owed

abbrev pub open_on : Question → Due → ℕ
open_on q due = asked_from q due.is_batch due.is_unreadable (expected_ids due)

abbrev pub open_in : Question → List Due → ℕ
open_in q [] = 0
open_in q (due ∷ owed) = open_on q due + open_in q owed

pub open-append : (q : Question) (xs ys : List Due) → open_in q (xs ++ ys) ≡ open_in q xs + open_in q ys
open-append q [] ys = (let same : open_in q ys ≡ 0 + open_in q ys = omega arith in same)
open-append q (x ∷ xs) ys = let rest = open-append q xs ys in omega (arith, rest)

-- nothing is asked by a content alone from which nothing is expected
nothing_asked : (q : Question) → CanBeAsked q → asked_from q false false [] ≡ 0
nothing_asked (alone id) can = refl
nothing_asked (together ids) can = refl
nothing_asked by_array can = refl
nothing_asked under_null can = refl

-- nor by a batch, but for its array, or that it is refused whole
abbrev pub IsOfIds : Question → Type 0
IsOfIds (alone id) = ⊤
IsOfIds (together ids) = ⊤
IsOfIds by_array = ⊤
IsOfIds under_null = ⊥

nothing_in_batch : (q : Question) → CanBeAsked q → IsOfIds q → asked_from q true false [] ≡ 0
nothing_in_batch (alone id) can of = refl
nothing_in_batch (together []) can of = absurd can
nothing_in_batch (together (id ∷ ids)) can of = refl
nothing_in_batch by_array can of = refl
nothing_in_batch under_null can of = absurd of

-- ---- one that can't be read

unreadable_orderly : (number offset : ℕ) → IsOrderly (unreadable_due number offset)
unreadable_orderly number offset = record { few = λ e. tt; plain = tt; empty = λ e. (refl, refl) }

pub unreadable_more : (owed : List Due) (number offset : ℕ) → AreOrderly owed → AreOrderly (owed ++ unreadable_due number offset ∷ [])
unreadable_more owed number offset orderly = all-append IsOrderly owed (unreadable_due number offset ∷ []) orderly (unreadable_orderly number offset, tt)

pub unreadable_open : (q : Question) (owed : List Due) (number offset : ℕ) → open_in q (owed ++ unreadable_due number offset ∷ []) ≡ open_in q owed + asked_from q false true []
unreadable_open q owed number offset = let sum = open-append q owed (unreadable_due number offset ∷ []) in omega (arith, sum)

-- ---- a content comes, and stands last

abbrev pub Ends : (Due → Type 0) → List Due → Type 0
Ends P [] = ⊥
Ends P (due ∷ []) = P due
Ends P (due ∷ next ∷ owed) = IsOrderly due × Ends P (next ∷ owed)

-- of all but the last
abbrev pub front_in : Question → List Due → ℕ
front_in q [] = 0
front_in q (due ∷ []) = 0
front_in q (due ∷ next ∷ owed) = open_on q due + front_in q (next ∷ owed)

pub new_ends : (P : Due → Type 0) (owed : List Due) (new : Due) → AreOrderly owed → P new → Ends P (owed ++ new ∷ [])
new_ends P [] new orderly is = is
new_ends P (due ∷ []) new orderly is = (orderly.0, is)
new_ends P (due ∷ next ∷ owed) new orderly is = (orderly.0, new_ends P (next ∷ owed) new orderly.1 is)

pub new_front : (q : Question) (owed : List Due) (new : Due) → front_in q (owed ++ new ∷ []) ≡ open_in q owed
new_front q [] new = refl
new_front q (due ∷ []) new = (let same : open_on q due + 0 ≡ open_on q due + 0 = refl in same)
new_front q (due ∷ next ∷ owed) new = ap (λ n. open_on q due + n) (new_front q (next ∷ owed) new)

-- a cancel changes neither what is expected, nor whether it is a request
module _ (settles : Bool) (by : WrittenId) where
  same_request : (x : Owed) → ((cancelled settles by x).is_request ≡ x.is_request) × ((cancelled settles by x).expected ≡ x.expected)
  same_request x = from (is_request_for by x)
    where
      from : (b : Bool) → ((if b then record x { is_cancelled = true; must = x.must && not settles } else x).is_request ≡ x.is_request)
          × ((if b then record x { is_cancelled = true; must = x.must && not settles } else x).expected ≡ x.expected)
      from true = (refl, refl)
      from false = (refl, refl)

  pub same_ids_of : (entries : List Owed) → filter_map (λ x. x.expected) (map (cancelled settles by) entries) ≡ filter_map (λ x. x.expected) entries
  same_ids_of [] = refl
  same_ids_of (x ∷ entries) = by_first (cancelled settles by x).expected x.expected (same_request x).1 (same_ids_of entries)
    where
      by_first : (one other : Option WrittenId) → one ≡ other → filter_map (λ x. x.expected) (map (cancelled settles by) entries) ≡ filter_map (λ x. x.expected) entries
          → filter_map (λ x. x.expected) (map (cancelled settles by) (x ∷ entries)) ≡ filter_map (λ x. x.expected) (x ∷ entries)
      by_first one other same rest = simp ((same_request x).1, rest) refl

  few_map : (entries : List Owed) → IsFew entries → IsFew (map (cancelled settles by) entries)
  few_map [] few = tt
  few_map (x ∷ []) few = tt
  few_map (x ∷ y ∷ entries) few = few

  orderly_cancelled : (due : Due) → IsOrderly due → IsOrderly (cancelled_in settles by due)
  orderly_cancelled due is = record {
    few = λ e. few_map due.entries (is.few e);
    plain = subst ArePlain (sym (same_ids_of due.entries)) is.plain;
    empty = λ e. ((is.empty e).0, ap (map (cancelled settles by)) (is.empty e).1);
  }

  pub ends_cancelled : (P : Due → Type 0) → ((due : Due) → P due → P (cancelled_in settles by due)) → (owed : List Due) → Ends P owed → Ends P (map (cancelled_in settles by) owed)
  ends_cancelled P keeps [] ends = absurd ends
  ends_cancelled P keeps (due ∷ []) ends = keeps due ends
  ends_cancelled P keeps (due ∷ next ∷ owed) ends = (orderly_cancelled due ends.0, ends_cancelled P keeps (next ∷ owed) ends.1)

  pub front_cancelled : (q : Question) (owed : List Due) → front_in q (map (cancelled_in settles by) owed) ≡ front_in q owed
  front_cancelled q [] = refl
  front_cancelled q (due ∷ []) = refl
  front_cancelled q (due ∷ next ∷ owed) = λ i. asked_from q due.is_batch due.is_unreadable (same_ids_of due.entries i) + front_cancelled q (next ∷ owed) i

-- one more entry, on the last content
abbrev pub with_more : Owed → Due → Due
with_more x due = record due { entries = due.entries ++ x ∷ [] }

pub ends_more : (P Q : Due → Type 0) (x : Owed) → ((due : Due) → P due → Q (with_more x due)) → (owed : List Due) → Ends P owed → Ends Q (owed_more x owed)
ends_more P Q x more [] ends = absurd ends
ends_more P Q x more (due ∷ []) ends = more due ends
ends_more P Q x more (due ∷ next ∷ []) ends = (ends.0, more next ends.1)
ends_more P Q x more (due ∷ next ∷ third ∷ owed) ends = (ends.0, ends_more P Q x more (next ∷ third ∷ owed) ends.1)

pub front_more : (q : Question) (P : Due → Type 0) (x : Owed) (owed : List Due) → Ends P owed → front_in q (owed_more x owed) ≡ front_in q owed
front_more q P x [] ends = absurd ends
front_more q P x (due ∷ []) ends = refl
front_more q P x (due ∷ next ∷ []) ends = refl
front_more q P x (due ∷ next ∷ third ∷ owed) ends = ap (λ n. open_on q due + n) (front_more q P x (next ∷ third ∷ owed) ends.1)

more_ids : (x : Owed) (entries : List Owed) → filter_map (λ x. x.expected) (entries ++ x ∷ []) ≡ filter_map (λ x. x.expected) entries ++ option_to_list x.expected
more_ids x entries = filter_map-append (λ (x : Owed). x.expected) entries (x ∷ []) ∙ ap (λ ids. filter_map (λ x. x.expected) entries ++ ids) (one_id x x.expected refl)
  where
    one_id : (x : Owed) (o : Option WrittenId) → x.expected ≡ o → filter_map (λ x. x.expected) (x ∷ []) ≡ option_to_list x.expected
    one_id x None is = simp (is) refl
    one_id x (Some id) is = simp (is) refl

-- it may be forgotten behind its last entry
or_parts : (a b c : Bool) → (a || b || c) ≡ false → (a ≡ false) × (b ≡ false)
or_parts true b c is = cc
or_parts false true c is = cc
or_parts false false c is = (refl, refl)

some_left : (n : ℕ) → (suc n == 0) ≡ false
some_left n = grind (arith, nat_tests)

none_left : (entries : List Owed) → not (length entries == 0) ≡ false → entries ≡ []
none_left [] is = refl
none_left (x ∷ entries) is = absurd (let no : true ≡ false = sym (ap not (some_left (length entries))) ∙ is in cc)

last_orderly : (b : Bool) (due : Due) → IsOrderly due → AreOrderly (if b then due ∷ [] else [])
last_orderly true due is = (is, tt)
last_orderly false due is = tt

pub closed_orderly : (P : Due → Type 0) → ((due : Due) → P due → IsOrderly due) → (owed : List Due) → Ends P owed → AreOrderly (closed owed)
closed_orderly P orderly [] ends = absurd ends
closed_orderly P orderly (due ∷ []) ends = last_orderly (is_open due) due (orderly due ends)
closed_orderly P orderly (due ∷ next ∷ owed) ends = (ends.0, closed_orderly P orderly (next ∷ owed) ends.1)

nothing_on : (q : Question) (batch : Bool) (due : Due) → due.is_batch ≡ batch → is_open due ≡ false → open_on q due ≡ asked_from q batch false []
nothing_on q batch due single is =
    let parts = or_parts (not (length due.entries == 0)) due.is_unreadable due.has_huge is in
    let empty = none_left due.entries parts.0 in
    (λ i. asked_from q (single i) (parts.1 i) (filter_map (λ x. x.expected) (empty i)))

pub nothing_alone : (q : Question) → CanBeAsked q → (due : Due) → due.is_batch ≡ false → is_open due ≡ false → open_on q due ≡ 0
nothing_alone q can due single is = nothing_on q false due single is ∙ nothing_asked q can

pub nothing_together : (q : Question) → CanBeAsked q → IsOfIds q → (due : Due) → due.is_batch ≡ true → is_open due ≡ false → open_on q due ≡ 0
nothing_together q can of due batch is = nothing_on q true due batch is ∙ nothing_in_batch q can of

last_open : (q : Question) (b : Bool) (due : Due) → (b ≡ false → open_on q due ≡ 0) → open_in q (if b then due ∷ [] else []) ≡ open_on q due
last_open q true due none = (let same : open_on q due + 0 ≡ open_on q due = omega arith in same)
last_open q false due none = sym (none refl)

pub closed_open : (q : Question) (P : Due → Type 0) (n : ℕ) → ((due : Due) → P due → open_on q due ≡ n) → ((due : Due) → P due → is_open due ≡ false → open_on q due ≡ 0) → (owed : List Due) → Ends P owed
    → open_in q (closed owed) ≡ front_in q owed + n
closed_open q P n counts none [] ends = absurd ends
closed_open q P n counts none (due ∷ []) ends =
    let last = last_open q (is_open due) due (none due ends) in let is = counts due ends in (let same : open_in q (closed (due ∷ [])) ≡ 0 + n = omega (arith, last, is) in same)
closed_open q P n counts none (due ∷ next ∷ owed) ends = let rest = closed_open q P n counts none (next ∷ owed) ends.1 in omega (arith, rest)

-- The last content is open still, or it is forgotten: by how many there are then.
abbrev pub IsShut : Question → List Due → List Due → Type 0
IsShut q owed after = ((open_in q after ≡ front_in q owed + 1) × (length after ≡ length owed)) ⊎ ((open_in q after ≡ front_in q owed) × (suc (length after) ≡ length owed))

last_shut : (q : Question) (b : Bool) (due : Due) → open_on q due ≡ 1 → IsShut q (due ∷ []) (if b then due ∷ [] else [])
last_shut q true due is = inl ((let same : open_on q due + 0 ≡ 0 + 1 = omega (arith, is) in same), refl)
last_shut q false due is = inr (refl, refl)

shut_behind : (q : Question) (due next : Due) (owed after : List Due) → IsShut q (next ∷ owed) after → IsShut q (due ∷ next ∷ owed) (due ∷ after)
shut_behind q due next owed after (inl is) = inl ((let one = is.0 in omega (arith, one)), ap suc is.1)
shut_behind q due next owed after (inr is) = inr ((let one = is.0 in omega (arith, one)), ap suc is.1)

pub closed_shut : (q : Question) (P : Due → Type 0) → ((due : Due) → P due → open_on q due ≡ 1) → (owed : List Due) → Ends P owed → IsShut q owed (closed owed)
closed_shut q P counts [] ends = absurd ends
closed_shut q P counts (due ∷ []) ends = last_shut q (is_open due) due (counts due ends)
closed_shut q P counts (due ∷ next ∷ owed) ends = shut_behind q due next owed (closed (next ∷ owed)) (closed_shut q P counts (next ∷ owed) ends.1)

pub more_length : (x : Owed) (P : Due → Type 0) (owed : List Due) → Ends P owed → length (owed_more x owed) ≡ length owed
more_length x P [] ends = absurd ends
more_length x P (due ∷ []) ends = refl
more_length x P (due ∷ next ∷ []) ends = refl
more_length x P (due ∷ next ∷ third ∷ owed) ends = ap suc (more_length x P (next ∷ third ∷ owed) ends.1)

pub new_length : (owed : List Due) (new : Due) → length (owed ++ new ∷ []) ≡ suc (length owed)
new_length [] new = refl
new_length (due ∷ owed) new = ap suc (new_length owed new)

pub map_length : (f : Due → Due) (owed : List Due) → length (map f owed) ≡ length owed
map_length f [] = refl
map_length f (due ∷ owed) = ap suc (map_length f owed)

pub open_ends : (q : Question) (P : Due → Type 0) (n : ℕ) → ((due : Due) → P due → open_on q due ≡ n) → (owed : List Due) → Ends P owed → open_in q owed ≡ front_in q owed + n
open_ends q P n counts [] ends = absurd ends
open_ends q P n counts (due ∷ []) ends = let is = counts due ends in (let same : open_on q due + 0 ≡ 0 + n = omega (arith, is) in same)
open_ends q P n counts (due ∷ next ∷ owed) ends = let rest = open_ends q P n counts (next ∷ owed) ends.1 in omega (arith, rest)

pub ends_orderly : (P : Due → Type 0) → ((due : Due) → P due → IsOrderly due) → (owed : List Due) → Ends P owed → AreOrderly owed
ends_orderly P orderly [] ends = absurd ends
ends_orderly P orderly (due ∷ []) ends = (orderly due ends, tt)
ends_orderly P orderly (due ∷ next ∷ owed) ends = (ends.0, ends_orderly P orderly (next ∷ owed) ends.1)

-- ---- what stands last: a content alone, with no entry or with one; or a batch, from which these ids are expected

pub record LastNew (due : Due) : Type 0 where
  pub batch : due.is_batch ≡ false
  pub readable : due.is_unreadable ≡ false
  pub empty : due.entries ≡ []

pub record LastOne (x : Owed) (due : Due) : Type 0 where
  pub batch : due.is_batch ≡ false
  pub readable : due.is_unreadable ≡ false
  pub one : due.entries ≡ x ∷ []

pub record LastBatch (ids : List WrittenId) (due : Due) : Type 0 where
  pub batch : due.is_batch ≡ true
  pub readable : due.is_unreadable ≡ false
  pub are : expected_ids due ≡ ids

never : {A : Type 0} (b : Bool) → b ≡ true → b ≡ false → A
never true is isnt = absurd (cc)
never false is isnt = absurd (cc)

pub first_one : (x : Owed) (due : Due) → LastNew due → LastOne x (with_more x due)
first_one x due last = record { batch = last.batch; readable = last.readable; one = ap (λ es. es ++ x ∷ []) last.empty }

pub more_batch : (ids : List WrittenId) (x : Owed) (due : Due) → LastBatch ids due → LastBatch (ids ++ option_to_list x.expected) (with_more x due)
more_batch ids x due last = record { batch = last.batch; readable = last.readable; are = more_ids x due.entries ∙ ap (λ them. them ++ option_to_list x.expected) last.are }

module _ (settles : Bool) (by : WrittenId) where
  pub new_cancelled : (due : Due) → LastNew due → LastNew (cancelled_in settles by due)
  new_cancelled due last = record { batch = last.batch; readable = last.readable; empty = ap (map (cancelled settles by)) last.empty }

  pub batch_cancelled : (ids : List WrittenId) (due : Due) → LastBatch ids due → LastBatch ids (cancelled_in settles by due)
  batch_cancelled ids due last = record { batch = last.batch; readable = last.readable; are = same_ids_of settles by due.entries ∙ last.are }

one_expected : (x : Owed) → filter_map (λ x. x.expected) (x ∷ []) ≡ option_to_list x.expected
one_expected x = more_ids x []

pub new_orderly : (due : Due) → LastNew due → IsOrderly due
new_orderly due last = record {
  few = λ e. subst IsFew (sym last.empty) tt;
  plain = subst (λ es. ArePlain (filter_map (λ x. x.expected) es)) (sym last.empty) tt;
  empty = λ e. (last.batch, last.empty);
}

pub one_orderly : (x : Owed) → ArePlain (option_to_list x.expected) → (due : Due) → LastOne x due → IsOrderly due
one_orderly x plain due last = record {
  few = λ e. subst IsFew (sym last.one) tt;
  plain = subst ArePlain (sym (ap (filter_map (λ x. x.expected)) last.one ∙ one_expected x)) plain;
  empty = λ e. never due.is_unreadable e last.readable;
}

pub batch_orderly : (ids : List WrittenId) → ArePlain ids → (due : Due) → LastBatch ids due → IsOrderly due
batch_orderly ids plain due last = record {
  few = λ e. never due.is_batch last.batch e;
  plain = subst ArePlain (sym last.are) plain;
  empty = λ e. never due.is_unreadable e last.readable;
}

module _ (q : Question) where
  pub new_open : (due : Due) → LastNew due → open_on q due ≡ asked_from q false false []
  new_open due last = λ i. asked_from q (last.batch i) (last.readable i) (filter_map (λ x. x.expected) (last.empty i))

  pub one_open : (x : Owed) (due : Due) → LastOne x due → open_on q due ≡ asked_from q false false (option_to_list x.expected)
  one_open x due last = (λ i. asked_from q (last.batch i) (last.readable i) (filter_map (λ x. x.expected) (last.one i))) ∙ ap (asked_from q false false) (one_expected x)

  pub batch_open : (ids : List WrittenId) (due : Due) → LastBatch ids due → open_on q due ≡ asked_from q true false ids
  batch_open ids due last = λ i. asked_from q (last.batch i) (last.readable i) (last.are i)

-- ---- a single answer comes: the oldest entry alone that fits

abbrev matching : (Owed → Bool) → List Owed → ℕ
matching fits [] = 0
matching fits (x ∷ entries) = as_number (fits x) + matching fits entries

abbrev pub fitting_on : (Owed → Bool) → Due → ℕ
fitting_on fits due = if due.is_batch then 0 else matching fits due.entries

abbrev pub fitting : (Owed → Bool) → List Due → ℕ
fitting fits [] = 0
fitting fits (due ∷ owed) = fitting_on fits due + fitting fits owed

-- it, and what is left without it
pub record Takes (fits : Owed → Bool) (owed : List Due) : Type 0 where
  pub content : ℕ
  pub is : oldest false fits owed ≡ Some (EntryOf content 0)
  pub fit : Fit
  pub found_is : dues.found (Some (EntryOf content 0)) owed ≡ Some (EntryFit fit)
  pub alone : fit.in_batch ≡ false
  pub it : Owed
  pub fits_it : fits it ≡ true
  pub plain : ArePlain (option_to_list it.expected)
  pub orderly : AreOrderly (settled_entry content 0 owed)
  pub left : (q : Question) → open_in q owed ≡ open_in q (settled_entry content 0 owed) + asked_from q false false (option_to_list it.expected)

one_none : (test : Owed → Bool) (x : Owed) → test x ≡ false → position test (x ∷ []) ≡ None
one_none test x isnt = passed_by test x [] isnt refl

abbrev place_by : Bool → Option ℕ → Option ℕ
place_by batch place = if (if false then batch else not batch) then place else None

takes_behind : (fits : Owed → Bool) (due : Due) (owed : List Due) → place_in false fits due ≡ None → IsOrderly due → Takes fits owed → Takes fits (due ∷ owed)
takes_behind fits due owed none is rest = record {
  content = suc rest.content;
  is = ap (λ o. option_map_or (λ place. Some (EntryOf 0 place)) o (option_map later (oldest false fits owed))) none ∙ ap (option_map later) rest.is;
  fit = rest.fit;
  found_is = rest.found_is;
  alone = rest.alone;
  it = rest.it;
  fits_it = rest.fits_it;
  plain = rest.plain;
  orderly = (is, rest.orderly);
  left = λ q. let e = rest.left q in omega (arith, e);
}

takes_here : (fits : Owed → Bool) (due : Due) (owed : List Due) (x : Owed) → due.is_batch ≡ false → due.entries ≡ x ∷ [] → fits x ≡ true → IsOrderly due → AreOrderly owed → Takes fits (due ∷ owed)
takes_here fits due owed x single one fit is orderly =
    let at : place_in false fits due ≡ Some 0 = (λ i. place_by (single i) (position fits (one i))) ∙ first_place fits x [] fit in
    let gone : settled_entry 0 0 (due ∷ owed) ≡ owed = ap (λ es. with_entries (remove es 0) due owed) one in
    let readable : due.is_unreadable ≡ false = unread_not due.is_unreadable refl in
    let last : LastOne x due = record { batch = single; readable = readable; one = one } in
    record {
      content = 0;
      is = ap (λ o. option_map_or (λ place. Some (EntryOf 0 place)) o (option_map later (oldest false fits owed))) at;
      fit = fit_of due x;
      found_is = ap (λ es. option_map EntryFit (option_map (fit_of due) (slice_get es 0))) one;
      alone = single;
      it = x;
      fits_it = fit;
      plain = subst ArePlain (ap (filter_map (λ x. x.expected)) one ∙ one_expected x) is.plain;
      orderly = subst AreOrderly (sym gone) orderly;
      left = λ q. let here = one_open q x due last in let same = ap (open_in q) gone in omega (arith, here, same);
    }
  where
    no_entry : x ∷ [] ≡ [] → ⊥
    no_entry e = cc

    unread_not : (b : Bool) → due.is_unreadable ≡ b → due.is_unreadable ≡ false
    unread_not true e = absurd (no_entry (sym one ∙ (is.empty e).1))
    unread_not false e = e

takes_by : (fits : Owed → Bool) (due : Due) (owed : List Due) (batch : Bool) → due.is_batch ≡ batch → (entries : List Owed) → due.entries ≡ entries → IsOrderly due → AreOrderly owed → (1 ≤ fitting fits owed → Takes fits owed)
    → 1 ≤ (if batch then 0 else matching fits entries) + fitting fits owed → Takes fits (due ∷ owed)
takes_by fits due owed true single entries are is orderly later some =
    takes_behind fits due owed (ap (λ b. place_by b (position fits due.entries)) single) is (later (omega (arith, some)))
takes_by fits due owed false single [] are is orderly later some =
    takes_behind fits due owed ((λ i. place_by (single i) (position fits (are i)))) is (later (omega (arith, some)))
takes_by fits due owed false single (x ∷ []) are is orderly later some = from (fits x) refl
  where
    from : (b : Bool) → fits x ≡ b → Takes fits (due ∷ owed)
    from true fit = takes_here fits due owed x single are fit is orderly
    from false fit =
        let none = ap as_number fit in
        takes_behind fits due owed ((λ i. place_by (single i) (position fits (are i))) ∙ one_none fits x fit) is (later (omega (arith, some, none)))
takes_by fits due owed false single (x ∷ y ∷ entries) are is orderly later some = absurd (subst IsFew are (is.few single))

pub takes : (fits : Owed → Bool) (owed : List Due) → AreOrderly owed → 1 ≤ fitting fits owed → Takes fits owed
takes fits [] orderly some = absurd (omega (arith, some))
takes fits (due ∷ owed) orderly some = takes_by fits due owed due.is_batch refl due.entries refl orderly.0 orderly.1 (takes fits owed orderly.1) some

-- where none fits
none_matches : (fits : Owed → Bool) (entries : List Owed) → matching fits entries ≡ 0 → position fits entries ≡ None
none_matches fits [] none = refl
none_matches fits (x ∷ entries) none = from (fits x) refl (none_matches fits entries)
  where
    from : (b : Bool) → fits x ≡ b → (matching fits entries ≡ 0 → position fits entries ≡ None) → position fits (x ∷ entries) ≡ None
    from true fit later = absurd (let one = ap as_number fit in omega (arith, none, one))
    from false fit later = passed_by fits x entries fit (later (omega (arith, none)))

place_none : (fits : Owed → Bool) (due : Due) (batch : Bool) → due.is_batch ≡ batch → (if batch then 0 else matching fits due.entries) ≡ 0 → place_in false fits due ≡ None
place_none fits due true single none = ap (λ b. place_by b (position fits due.entries)) single
place_none fits due false single none = ap (λ b. place_by b (position fits due.entries)) single ∙ none_matches fits due.entries none

pub none_oldest : (fits : Owed → Bool) (owed : List Due) → fitting fits owed ≡ 0 → oldest false fits owed ≡ None
none_oldest fits [] none = refl
none_oldest fits (due ∷ owed) none =
    ap (λ o. option_map_or (λ place. Some (EntryOf 0 place)) o (option_map later (oldest false fits owed))) (place_none fits due due.is_batch refl (omega (arith, none)))
    ∙ ap (option_map later) (none_oldest fits owed (omega (arith, none)))

-- ---- how many entries fit

as_expected : (id : WrittenId) (entries : List Owed) → times id (filter_map (λ x. x.expected) entries) ≡ matching (is_expected id) entries
as_expected id [] = refl
as_expected id (x ∷ entries) = from x.expected refl (as_expected id entries)
  where
    from : (o : Option WrittenId) → x.expected ≡ o → times id (filter_map (λ x. x.expected) entries) ≡ matching (is_expected id) entries → times id (filter_map (λ x. x.expected) (x ∷ entries)) ≡ matching (is_expected id) (x ∷ entries)
    from None is rest = simp (is) (let same : times id (filter_map (λ x. x.expected) entries) ≡ 0 + matching (is_expected id) entries = omega (arith, rest) in same)
    from (Some other) is rest = simp (is, rest) refl

pub alone_fits : (id : WrittenId) (owed : List Due) → open_in (alone id) owed ≡ fitting (is_expected id) owed
alone_fits id [] = refl
alone_fits id (due ∷ owed) = λ i. (if due.is_batch then 0 else as_expected id due.entries i) + alone_fits id owed i

-- ---- what may be answered under null

as_null : (entries : List Owed) → nulls (filter_map (λ x. x.expected) entries) ≡ matching expects_null entries
as_null [] = refl
as_null (x ∷ entries) = from x.expected refl (as_null entries)
  where
    from : (o : Option WrittenId) → x.expected ≡ o → nulls (filter_map (λ x. x.expected) entries) ≡ matching expects_null entries → nulls (filter_map (λ x. x.expected) (x ∷ entries)) ≡ matching expects_null (x ∷ entries)
    from None is rest = simp (is) (let same : nulls (filter_map (λ x. x.expected) entries) ≡ 0 + matching expects_null entries = omega (arith, rest) in same)
    from (Some other) is rest = simp (is, rest) refl

-- how many contents are such
abbrev pub wholes : (Due → Bool) → List Due → ℕ
wholes test [] = 0
wholes test (due ∷ owed) = as_number (test due) + wholes test owed

-- a batch, one that can't be read, or an entry alone
null_on : (due : Due) → IsOrderly due → open_on under_null due ≡ as_number due.is_batch + as_number due.is_unreadable + fitting_on expects_null due
null_on due is = from due.is_batch refl due.is_unreadable refl
  where
    from : (batch : Bool) → due.is_batch ≡ batch → (unread : Bool) → due.is_unreadable ≡ unread → (if batch || unread then 1 else nulls (expected_ids due)) ≡ as_number batch + as_number unread + (if batch then 0 else matching expects_null due.entries)
    from true batch true unread = absurd (let no : true ≡ false = sym batch ∙ (is.empty unread).0 in cc)
    from true batch false unread = refl
    from false batch true unread = let none = ap (matching expects_null) (is.empty unread).1 in (let same : 1 ≡ 0 + 1 + matching expects_null due.entries = omega (arith, none) in same)
    from false batch false unread = let same = as_null due.entries in (let all : nulls (expected_ids due) ≡ 0 + 0 + matching expects_null due.entries = omega (arith, same) in all)

pub under_null_is : (owed : List Due) → AreOrderly owed → open_in under_null owed ≡ wholes (λ due. due.is_batch) owed + wholes (λ due. due.is_unreadable) owed + fitting expects_null owed
under_null_is [] orderly = refl
under_null_is (due ∷ owed) orderly = let first = null_on due orderly.0 in let rest = under_null_is owed orderly.1 in omega (arith, first, rest)

-- each counts once at most
few_nulls : (entries : List Owed) → IsFew entries → nulls (filter_map (λ x. x.expected) entries) ≤ 1
few_nulls [] few = omega arith
few_nulls (x ∷ []) few = from x.expected refl
  where
    most : (b : Bool) → as_number b + 0 ≤ 1
    most true = omega arith
    most false = omega arith

    from : (o : Option WrittenId) → x.expected ≡ o → nulls (filter_map (λ x. x.expected) (x ∷ [])) ≤ 1
    from None is = simp (is) (let least : 0 ≤ 1 = omega arith in least)
    from (Some id) is = simp (is) (most (is_null id))
few_nulls (x ∷ y ∷ entries) few = absurd few

null_once : (due : Due) → IsOrderly due → open_on under_null due ≤ 1
null_once due is = from due.is_batch refl due.is_unreadable
  where
    from : (batch : Bool) → due.is_batch ≡ batch → (unread : Bool) → (if batch || unread then 1 else nulls (expected_ids due)) ≤ 1
    from true batch unread = omega arith
    from false batch true = omega arith
    from false batch false = few_nulls due.entries (is.few batch)

pub under_null_most : (owed : List Due) → AreOrderly owed → open_in under_null owed ≤ length owed
under_null_most [] orderly = omega arith
under_null_most (due ∷ owed) orderly = let first = null_once due orderly.0 in let rest = under_null_most owed orderly.1 in omega (arith, first, rest)

pub any_whole : (test : Due → Bool) (owed : List Due) → 1 ≤ wholes test owed → list_any test owed ≡ true
any_whole test [] some = absurd (omega (arith, some))
any_whole test (due ∷ owed) some = from (test due) refl (any_whole test owed)
  where
    from : (b : Bool) → test due ≡ b → (1 ≤ wholes test owed → list_any test owed ≡ true) → list_any test (due ∷ owed) ≡ true
    from true is later = ap (λ b. b || list_any test owed) is
    from false is later = ap (λ b. b || list_any test owed) is ∙ later (let none = ap as_number is in omega (arith, some, none))

pub whole_any : (test : Due → Bool) (owed : List Due) → list_any test owed ≡ true → 1 ≤ wholes test owed
whole_any test [] is = absurd (let no : false ≡ true = is in cc)
whole_any test (due ∷ owed) is = from (test due) refl is (whole_any test owed)
  where
    from : (b : Bool) → test due ≡ b → (b || list_any test owed) ≡ true → (list_any test owed ≡ true → 1 ≤ wholes test owed) → 1 ≤ wholes test (due ∷ owed)
    from true passes either later = let one = ap as_number passes in omega (arith, one)
    from false passes either later = let rest = later either in omega (arith, rest)

-- from which an array is expected, there is a batch
array_on : (batch some : Bool) → as_number (batch && some) ≤ as_number batch
array_on true true = omega arith
array_on true false = omega arith
array_on false some = omega arith

arrays_few : (owed : List Due) → open_in by_array owed ≤ wholes (λ due. due.is_batch) owed
arrays_few [] = omega arith
arrays_few (due ∷ owed) = let first = array_on due.is_batch (any_id (expected_ids due)) in let rest = arrays_few owed in omega (arith, first, rest)

pub open_batch : (owed : List Due) → 1 ≤ open_in by_array owed → list_any (λ due. due.is_batch) owed ≡ true
open_batch owed some = any_whole (λ due. due.is_batch) owed (let few = arrays_few owed in omega (arith, some, few))

pub none_whole : (test : Due → Bool) (owed : List Due) → wholes test owed ≡ 0 → position test owed ≡ None
none_whole test [] none = refl
none_whole test (due ∷ owed) none = from (test due) refl (none_whole test owed)
  where
    from : (b : Bool) → test due ≡ b → (wholes test owed ≡ 0 → position test owed ≡ None) → position test (due ∷ owed) ≡ None
    from true is later = absurd (let one = ap as_number is in omega (arith, none, one))
    from false is later = passed_by test due owed is (later (omega (arith, none)))

-- a request, or another entry
parts_of : (request null : Bool) → as_number null ≡ as_number (request && null) + as_number (not request && null)
parts_of true true = refl
parts_of true false = refl
parts_of false true = refl
parts_of false false = refl

matching_parts : (entries : List Owed) → matching expects_null entries ≡ matching is_null_request entries + matching is_null_other entries
matching_parts [] = refl
matching_parts (x ∷ entries) = let first = parts_of x.is_request (expects_null x) in let rest = matching_parts entries in omega (arith, first, rest)

fitting_by : (batch : Bool) (entries : List Owed) → (if batch then 0 else matching expects_null entries) ≡ (if batch then 0 else matching is_null_request entries) + (if batch then 0 else matching is_null_other entries)
fitting_by true entries = refl
fitting_by false entries = matching_parts entries

pub null_parts : (owed : List Due) → fitting expects_null owed ≡ fitting is_null_request owed + fitting is_null_other owed
null_parts [] = refl
null_parts (due ∷ owed) = let first = fitting_by due.is_batch due.entries in let rest = null_parts owed in omega (arith, first, rest)

-- ---- the whole of a content is answered

pub record TakesWhole (test : Due → Bool) (owed : List Due) : Type 0 where
  pub content : ℕ
  pub is : position test owed ≡ Some content
  pub it : Due
  pub there : slice_get owed content ≡ Some it
  pub fits_it : test it ≡ true
  pub was : IsOrderly it
  pub orderly : AreOrderly (remove owed content)
  pub left : (q : Question) → open_in q owed ≡ open_in q (remove owed content) + open_on q it

whole_by : (test : Due → Bool) (due : Due) (owed : List Due) (b : Bool) → test due ≡ b → IsOrderly due → AreOrderly owed → (b ≡ false → TakesWhole test owed) → TakesWhole test (due ∷ owed)
whole_by test due owed true fit is orderly later = record {
  content = 0;
  is = first_place test due owed fit;
  it = due;
  there = refl;
  fits_it = fit;
  was = is;
  orderly = orderly;
  left = λ q. (let same : open_on q due + open_in q owed ≡ open_in q owed + open_on q due = omega arith in same);
}
whole_by test due owed false fit is orderly later =
    let rest = later refl in
    record {
      content = suc rest.content;
      is = next_place test due owed rest.content fit rest.is;
      it = rest.it;
      there = rest.there;
      fits_it = rest.fits_it;
      was = rest.was;
      orderly = (is, rest.orderly);
      left = λ q. let e = rest.left q in (let same : open_on q due + open_in q owed ≡ open_on q due + open_in q (remove owed rest.content) + open_on q rest.it = omega (arith, e) in same);
    }

pub takes_whole : (test : Due → Bool) (owed : List Due) → AreOrderly owed → 1 ≤ wholes test owed → TakesWhole test owed
takes_whole test [] orderly some = absurd (omega (arith, some))
takes_whole test (due ∷ owed) orderly some =
    whole_by test due owed (test due) refl orderly.0 orderly.1
    (λ isnt. takes_whole test owed orderly.1 (let none = ap as_number isnt in omega (arith, some, none)))

pub together_wholes : (ids : List WrittenId) (owed : List Due) → open_in (together ids) owed ≡ wholes (is_just ids) owed
together_wholes ids [] = refl
together_wholes ids (due ∷ owed) = ap (λ n. as_number (is_just ids due) + n) (together_wholes ids owed)
