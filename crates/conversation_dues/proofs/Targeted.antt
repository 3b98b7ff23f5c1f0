-- The batch that an array of answers is for.
use Rattle.std.proofs.Common.{◌≡◌, ◌&&◌, not, ℕ, Bool, List, [], ◌∷◌, true, false, Option, Some, None, Result, Ok, Err, IfOk, position, refl, ap, sym, ◌∙◌}
use Rattle.std.specs.Prelude.{count_by, is_some}
use Rattle.std.specs.List.{list_any}
use Rattle.std.specs.Option.{option_map_or, is_none}
use Rattle.conversation_dues.specs.Answered.{is_answered}
use Rattle.conversation_dues.specs.declared.batches.Answer.{Answer}
use Rattle.conversation_dues.specs.declared.batches.Answer.TheVariants.{JustDue, Just, Possible}
use Rattle.conversation_ids.specs.OwedMarks.{due_has}
use Rattle.conversation_open.specs.Open.{among_has}
use Rattle.conversation_open.specs.declared.among.Among.TheVariants.{Batches}
use Rattle.conversation_reading.specs.declared.entry.WrittenId.{WrittenId}
use Rattle.conversation_rules.specs.Dues.{ids_read, array_target}
use Rattle.conversation_rules.specs.Matching.{is_just_due, is_just, left_batch_target, batch_target, is_guess, same_ids, expected_ids, left_by, leaves_no_request, nulls_last}
use Rattle.conversation_rules.specs.Owed.{Due}

no_ids : (ids : List (Option WrittenId)) → list_any is_some ids ≡ false → ids_read ids ≡ []
no_ids [] none = refl
no_ids (None ∷ ids) none = no_ids ids none
no_ids (Some id ∷ ids) none = absurd (let e : true ≡ false = none in cc)

pub some_ids : (ids : List (Option WrittenId)) → list_any is_some ids ≡ true → ids_read ids ≡ [] → ⊥
some_ids [] some none = let e : false ≡ true = some in cc
some_ids (None ∷ ids) some none = some_ids ids some none
some_ids (Some id ∷ ids) some none = let e : id ∷ ids_read ids ≡ [] = none in cc

pub none_named : (ids : List (Option WrittenId)) (dues : List Due) → list_any is_some ids ≡ false → None ≡ array_target ids dues
none_named ids dues none = sym (ap (λ read. batch_target read (count_by is_none ids) dues) (no_ids ids none))

target-by : (read : List WrittenId) (unnamed : ℕ) (dues : List Due) → (read ≡ [] → ⊥) → option_map_or Some (position (is_just_due read) dues) (left_batch_target read unnamed dues) ≡ batch_target read unnamed dues
target-by [] unnamed dues some = absurd (some refl)
target-by (id ∷ ids) unnamed dues some = refl

module _ (ids : List (Option WrittenId)) (dues : List Due) (some : list_any is_some ids ≡ true) where
  abbrev left : Option ℕ
  left = left_batch_target (ids_read ids) (count_by is_none ids) dues

  target-is : (o : Option ℕ) → position (is_just_due (ids_read ids)) dues ≡ o → array_target ids dues ≡ option_map_or Some o left
  target-is o is = sym (target-by (ids_read ids) (count_by is_none ids) dues (some_ids ids some)) ∙ ap (λ due. option_map_or Some due left) is

  pub due_target : (content : ℕ) → position (is_just_due (ids_read ids)) dues ≡ Some content → array_target ids dues ≡ Some content
  due_target content is = target-is (Some content) is

  pub left_target : position (is_just_due (ids_read ids)) dues ≡ None → array_target ids dues ≡ left
  left_target none = target-is None none

pub if_ok_then : {X E : Type 0} {P Q : X → Type 0} (r : Result X E) → ((x : X) → P x → Q x) → IfOk r P → IfOk r Q
if_ok_then (Ok x) f p = f x p
if_ok_then (Err e) f p = tt

-- ---- whether it has to be guessed

abbrev any_batch : List Due → Bool
any_batch dues = list_any (λ due. due.is_batch) dues

guess_of : (read : List WrittenId) (dues : List Due) → (read ≡ [] → ⊥) → (any_batch dues && not (list_any (is_just read) dues)) ≡ is_guess read dues
guess_of [] dues some = absurd (some refl)
guess_of (id ∷ ids) dues some = refl

pub none_guessed : (ids : List (Option WrittenId)) (dues : List Due) → list_any is_some ids ≡ false → false ≡ is_guess (ids_read ids) dues
none_guessed ids dues none = sym (ap (λ read. is_guess read dues) (no_ids ids none))

-- no batch is open
pub no_batch : (read : List WrittenId) (dues : List Due) → any_batch dues ≡ false → false ≡ is_guess read dues
no_batch [] dues none = refl
no_batch (id ∷ ids) dues none = sym (ap (λ b. b && not (list_any (is_just (id ∷ ids)) dues)) none)

pub none_there : (none some : Bool) → not none ≡ some → none ≡ not some
none_there true some is = ap not is
none_there false some is = ap not is

-- else it is where just these are expected from none
pub guessed : (ids : List (Option WrittenId)) (dues : List Due) (o : Option ℕ) → list_any is_some ids ≡ true → any_batch dues ≡ true → is_some o ≡ list_any (is_just (ids_read ids)) dues
    → not (is_some o) ≡ is_guess (ids_read ids) dues
guessed ids dues o named open_one found =
    ap not found ∙ ap (λ b. b && not (list_any (is_just (ids_read ids)) dues)) (sym open_one) ∙ guess_of (ids_read ids) dues (some_ids ids named)

-- ---- what is no batch is answered by no array

and_false : (b : Bool) → (b && false) ≡ false
and_false true = refl
and_false false = refl

no_batch_just : (ids : List (Option WrittenId)) (due : Due) → due.is_batch ≡ false → is_just (ids_read ids) due ≡ false
no_batch_just ids due none = ap (λ b. b && same_ids (ids_read ids) (expected_ids due)) none

no_batch_answered : (answer : Answer) (ids : List (Option WrittenId)) (due : Due) → due.is_batch ≡ false → is_answered answer ids due ≡ false
no_batch_answered JustDue ids due none =
    ap (λ b. list_any (λ owed. owed.must) due.entries && b) (no_batch_just ids due none) ∙ and_false (list_any (λ owed. owed.must) due.entries)
no_batch_answered Just ids due none = no_batch_just ids due none
no_batch_answered Possible ids due none = ap (λ b. b && option_map_or (leaves_no_request (count_by is_none ids)) (left_by (nulls_last (ids_read ids)) due.entries) false) none

pub not_answered : (answer : Answer) (ids : List (Option WrittenId)) (due : Due) (mark : ℕ) → (due_has mark due ≡ false → is_answered answer ids due ≡ false) → among_has Batches mark due ≡ false → is_answered answer ids due ≡ false
not_answered answer ids due mark by_mark none = from due.is_batch refl none
  where
    from : (b : Bool) → due.is_batch ≡ b → (b && due_has mark due) ≡ false → is_answered answer ids due ≡ false
    from true is no_mark = by_mark no_mark
    from false is no_mark = no_batch_answered answer ids due is
