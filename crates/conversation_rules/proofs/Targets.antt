-- A target is an entry that fits.
use Rattle.std.proofs.Common.{◌≡◌, ◌||◌, ◌&&◌, ℕ, List, [], ◌∷◌, Bool, true, false, Option, Some, None, IfSome, option_map, refl, sym, subst, if◌then◌else◌}
use Rattle.std.specs.Prelude.{position, not, slice_get, IsSomeAnd}
use Rattle.std.specs.Option.{option_map_or}
use Rattle.std.proofs.lemmas.List.Quantifiers.{position-Some}
use Rattle.std.proofs.lemmas.Option.{slice_get-get_or}
use Rattle.conversation_reading.specs.declared.entry.WrittenId.{WrittenId}
use Rattle.conversation_rules.specs.Owed.{Owed, Due, is_expected, may_have}
use Rattle.conversation_rules.specs.declared.found.Target.{Target}
use Rattle.conversation_rules.specs.declared.found.Target.TheVariants.{EntryOf, WholeOf}
use Rattle.conversation_rules.specs.Matching.{later, place_in, oldest, or_else, is_due_for, is_request_for, left_named_in, named_in, named_target, IsFor, takes}

-- what stands at the place that `position` gives
position-is : (fits : Owed → Bool) (entries : List Owed) (place : ℕ) → position fits entries ≡ Some place → IsSomeAnd (slice_get entries place) (λ owed. fits owed ≡ true)
position-is fits [] place is = absurd (let e : None ≡ Some place = is in cc)
position-is fits (first ∷ entries) place is =
    let all = first ∷ entries in
    let found = position-Some fits all place first is in
    let P : Option Owed → Type 0 = λ o. IsSomeAnd o (λ owed. fits owed ≡ true) in
    subst P (sym (slice_get-get_or all place first found.0)) found.1

place_in-is : (batches : Bool) (fits : Owed → Bool) (due : Due) (place : ℕ) → place_in batches fits due ≡ Some place → IsSomeAnd (slice_get due.entries place) (λ owed. fits owed ≡ true)
place_in-is batches fits due place is = by_kind (if batches then due.is_batch else not due.is_batch) is
  where
    by_kind : (b : Bool) → (if b then position fits due.entries else None) ≡ Some place → IsSomeAnd (slice_get due.entries place) (λ owed. fits owed ≡ true)
    by_kind true here = position-is fits due.entries place here
    by_kind false here = absurd (let e : None ≡ Some place = here in cc)

-- one content more stands before it
later-is : (fits : Owed → Bool) (due : Due) (dues : List Due) (target : Target) → IsFor fits dues target → IsFor fits (due ∷ dues) (later target)
later-is fits due dues (EntryOf content place) is = is
later-is fits due dues (WholeOf content) is = is

IfSome-later : (fits : Owed → Bool) (due : Due) (dues : List Due) (found : Option Target) → IfSome found (λ target. IsFor fits dues target) → IfSome (option_map later found) (λ target. IsFor fits (due ∷ dues) target)
IfSome-later fits due dues None is = is
IfSome-later fits due dues (Some target) is = later-is fits due dues target is

oldest-by_place : (batches : Bool) (fits : Owed → Bool) (due : Due) (dues : List Due) → IfSome (oldest batches fits dues) (λ target. IsFor fits dues target) → (found : Option ℕ) →
    place_in batches fits due ≡ found → IfSome (option_map_or (λ place. Some (EntryOf 0 place)) found (option_map later (oldest batches fits dues))) (λ target. IsFor fits (due ∷ dues) target)
oldest-by_place batches fits due dues others (Some place) is = place_in-is batches fits due place is
oldest-by_place batches fits due dues others None is = IfSome-later fits due dues (oldest batches fits dues) others

oldest-is : (batches : Bool) (fits : Owed → Bool) (dues : List Due) → IfSome (oldest batches fits dues) (λ target. IsFor fits dues target)
oldest-is batches fits [] = tt
oldest-is batches fits (due ∷ dues) = oldest-by_place batches fits due dues (oldest-is batches fits dues) (place_in batches fits due) refl

-- ---- a weaker test

or_left : (a b : Bool) → a ≡ true → (a || b) ≡ true
or_left true b is = refl
or_left false b is = cc

or_right : (a b : Bool) → b ≡ true → (a || b) ≡ true
or_right true b is = refl
or_right false b is = is

and_right : (a b : Bool) → (a && b) ≡ true → b ≡ true
and_right true b is = is
and_right false b is = cc

entry-weaker : (f g : Owed → Bool) → ((owed : Owed) → f owed ≡ true → g owed ≡ true) → (o : Option Owed) → IsSomeAnd o (λ owed. f owed ≡ true) → IsSomeAnd o (λ owed. g owed ≡ true)
entry-weaker f g weaker None is = is
entry-weaker f g weaker (Some owed) is = weaker owed is

due-weaker : (f g : Owed → Bool) → ((owed : Owed) → f owed ≡ true → g owed ≡ true) → (place : ℕ) (o : Option Due) →
    IsSomeAnd o (λ due. IsSomeAnd (slice_get due.entries place) (λ owed. f owed ≡ true)) → IsSomeAnd o (λ due. IsSomeAnd (slice_get due.entries place) (λ owed. g owed ≡ true))
due-weaker f g weaker place None is = is
due-weaker f g weaker place (Some due) is = entry-weaker f g weaker (slice_get due.entries place) is

IsFor-weaker : (f g : Owed → Bool) → ((owed : Owed) → f owed ≡ true → g owed ≡ true) → (dues : List Due) (found : Option Target) → IfSome found (λ target. IsFor f dues target) → IfSome found (λ target. IsFor g dues target)
IsFor-weaker f g weaker dues None is = is
IsFor-weaker f g weaker dues (Some (EntryOf content place)) is = due-weaker f g weaker place (slice_get dues content) is
IsFor-weaker f g weaker dues (Some (WholeOf content)) is = is

IfSome-or_else : (P : Target → Type 0) (one other : Option Target) → IfSome one P → IfSome other P → IfSome (or_else one other) P
IfSome-or_else P (Some target) other is others = is
IfSome-or_else P None other is others = others

left_named_in-is : (batches : Bool) (id : WrittenId) (dues : List Due) → IfSome (left_named_in batches id dues) (λ target. IsFor (takes id) dues target)
left_named_in-is batches id dues =
    let P : Target → Type 0 = λ target. IsFor (takes id) dues target in
    let by_request = IsFor-weaker (is_request_for id) (takes id) (λ owed is. or_left (is_expected id owed) (may_have id owed) (and_right owed.is_request (is_expected id owed) is)) dues (oldest batches (is_request_for id) dues) (oldest-is batches (is_request_for id) dues) in
    let by_expected = IsFor-weaker (is_expected id) (takes id) (λ owed is. or_left (is_expected id owed) (may_have id owed) is) dues (oldest batches (is_expected id) dues) (oldest-is batches (is_expected id) dues) in
    let by_own = IsFor-weaker (may_have id) (takes id) (λ owed is. or_right (is_expected id owed) (may_have id owed) is) dues (oldest batches (may_have id) dues) (oldest-is batches (may_have id) dues) in
    IfSome-or_else P (oldest batches (is_request_for id) dues) (or_else (oldest batches (is_expected id) dues) (oldest batches (may_have id) dues)) by_request
    (IfSome-or_else P (oldest batches (is_expected id) dues) (oldest batches (may_have id) dues) by_expected by_own)

named_in-is : (batches : Bool) (id : WrittenId) (dues : List Due) → IfSome (named_in batches id dues) (λ target. IsFor (takes id) dues target)
named_in-is batches id dues =
    IfSome-or_else (λ target. IsFor (takes id) dues target) (oldest batches (is_due_for id) dues) (left_named_in batches id dues)
    (IsFor-weaker (is_due_for id) (takes id) (λ owed is. or_left (is_expected id owed) (may_have id owed) (and_right owed.must (is_expected id owed) is)) dues (oldest batches (is_due_for id) dues) (oldest-is batches (is_due_for id) dues))
    (left_named_in-is batches id dues)

pub named_target-is : (id : WrittenId) (dues : List Due) → IfSome (named_target id dues) (λ target. IsFor (takes id) dues target)
named_target-is id dues = IfSome-or_else (λ target. IsFor (takes id) dues target) (named_in false id dues) (named_in true id dues) (named_in-is false id dues) (named_in-is true id dues)
