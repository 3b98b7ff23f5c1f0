-- What is told of the entries that the answers of an array take.
use Rattle.std.proofs.Common.{◌≡◌, ℕ, suc, List, [], ◌∷◌, ◌++◌, Option, Some, None, length, take, drop, refl, ap, sym, ◌∙◌, append_assoc, option_map, Result, Ok, Err, IfOk, Vec, Global}
use Rattle.std.specs.Prelude.{count_by}
use Rattle.std.specs.List.{remove, slice_get}
use Rattle.std.specs.Option.{option_map_or}
use Rattle.std.proofs.Math.Seq.{take-append_seam}
use Rattle.std.proofs.lemmas.List.Sums.{length-filter}
use Rattle.conversation_reading.specs.declared.entry.WrittenId.{WrittenId}
use Rattle.conversation_rules.specs.Dues.{ids_read, fits_of, fit_of, in_order, array_fits, array_fits_from, not_null}
use Rattle.conversation_rules.specs.Matching.{taken_by, nulls_last}
use Rattle.conversation_rules.specs.Owed.{Owed, Due}
use Rattle.conversation_rules.specs.declared.found.Fit.{Fit}
use Rattle.conversation_dues.specs.Left.{ids_of, left_after, left_of}
use Rattle.conversation_contents.specs.Left.{IsLeftOf}
use Rattle.conversation_dues.specs.declared.arrays.Which.TheVariants.{Named, Nulls}

left_of-append : (xs ys : List WrittenId) (left : List Owed) → left_of (xs ++ ys) left ≡ left_of ys (left_of xs left)
left_of-append [] ys left = refl
left_of-append (id ∷ xs) ys left = left_of-append xs ys (left_after (taken_by id left) left)

fits_of-by : (due : Due) (xs ys : List WrittenId) (left : List Owed) → ((now : List Owed) → fits_of due (xs ++ ys) now ≡ fits_of due xs now ++ fits_of due ys (left_of xs now)) → (o : Option ℕ) →
    option_map_or (λ place. option_map (fit_of due) (slice_get left place) ∷ fits_of due (xs ++ ys) (remove left place)) o (None ∷ fits_of due (xs ++ ys) left)
    ≡ option_map_or (λ place. option_map (fit_of due) (slice_get left place) ∷ fits_of due xs (remove left place)) o (None ∷ fits_of due xs left) ++ fits_of due ys (left_of xs (left_after o left))
fits_of-by due xs ys left others None = ap (λ fits. None ∷ fits) (others left)
fits_of-by due xs ys left others (Some place) = ap (λ fits. option_map (fit_of due) (slice_get left place) ∷ fits) (others (remove left place))

pub fits_of-append : (due : Due) (xs ys : List WrittenId) (left : List Owed) → fits_of due (xs ++ ys) left ≡ fits_of due xs left ++ fits_of due ys (left_of xs left)
fits_of-append due [] ys left = refl
fits_of-append due (id ∷ xs) ys left = fits_of-by due xs ys left (fits_of-append due xs ys) (taken_by id left)

length-by : (due : Due) (ids : List WrittenId) (left : List Owed) → ((now : List Owed) → length (fits_of due ids now) ≡ length ids) → (o : Option ℕ) →
    length (option_map_or (λ place. option_map (fit_of due) (slice_get left place) ∷ fits_of due ids (remove left place)) o (None ∷ fits_of due ids left)) ≡ suc (length ids)
length-by due ids left others None = ap suc (others left)
length-by due ids left others (Some place) = ap suc (others (remove left place))

length-fits : (due : Due) (ids : List WrittenId) (left : List Owed) → length (fits_of due ids left) ≡ length ids
length-fits due [] left = refl
length-fits due (id ∷ ids) left = length-by due ids left (length-fits due ids) (taken_by id left)

drop-seam : {X : Type 0} (xs ys : List X) → drop (length xs) (xs ++ ys) ≡ ys
drop-seam [] ys = refl
drop-seam (x ∷ xs) ys = drop-seam xs ys

-- what is told so far, and then of what is left
pub record IsToldTo (due : Due) (read : ℕ → Option Owed) (places : List ℕ) (fits : List (Option Fit)) (rest : List WrittenId) (left : List Owed) (end : List (Option Fit)) : Type 0 where
  pub now : List Owed
  pub at : IsLeftOf read places now
  pub same_left : left_of rest now ≡ left
  pub same_fits : fits ++ fits_of due rest now ≡ end

pub told_one : (due : Due) (read : ℕ → Option Owed) (places : List ℕ) (was fits : List (Option Fit)) (all one rest : List WrittenId) (now left : List Owed) (end : List (Option Fit)) → all ≡ one ++ rest →
    left_of all now ≡ left → was ++ fits_of due all now ≡ end → IsLeftOf read places (left_of one now) → fits ≡ was ++ fits_of due one now → IsToldTo due read places fits rest left end
told_one due read places was fits all one rest now left end parts is_left is_told at more = record {
  now = left_of one now;
  at = at;
  same_left = sym (left_of-append one rest now) ∙ ap (λ ids. left_of ids now) (sym parts) ∙ is_left;
  same_fits = ap (λ fs. fs ++ fits_of due rest (left_of one now)) more ∙ append_assoc was (fits_of due one now) (fits_of due rest (left_of one now))
      ∙ ap (λ fs. was ++ fs) (sym (fits_of-append due one rest now) ∙ ap (λ ids. fits_of due ids now) (sym parts)) ∙ is_told;
}

pub array_fits-is : (due : Due) (ids : List (Option WrittenId)) (named nulls : List (Option Fit)) → named ≡ fits_of due (ids_of Named ids) due.entries → nulls ≡ fits_of due (ids_of Nulls ids) (left_of (ids_of Named ids) due.entries) →
    in_order ids named nulls ≡ array_fits ids due
array_fits-is due ids named nulls is_named is_nulls =
    let A : List (Option Fit) = fits_of due (ids_of Named ids) due.entries in
    let B : List (Option Fit) = fits_of due (ids_of Nulls ids) (left_of (ids_of Named ids) due.entries) in
    let n : ℕ = count_by not_null (ids_read ids) in
    let count : n ≡ length A = sym (length-fits due (ids_of Named ids) due.entries ∙ length-filter not_null (ids_read ids)) in
    let all : fits_of due (nulls_last (ids_read ids)) due.entries ≡ A ++ B = fits_of-append due (ids_of Named ids) (ids_of Nulls ids) due.entries in
    ap (λ fs. in_order ids fs nulls) is_named ∙ ap (λ fs. in_order ids A fs) is_nulls
    ∙ ap (λ fs. in_order ids fs B) (sym (take-append_seam A B)) ∙ ap (λ fs. in_order ids (take (length A) (A ++ B)) fs) (sym (drop-seam A B))
    ∙ ap (λ k. array_fits_from ids k (A ++ B)) (sym count) ∙ ap (array_fits_from ids n) (sym all)

pub if_ok_items : {E : Type 0} (r : Result (Vec (Option Fit) Global) E) (a b : List (Option Fit)) → a ≡ b → IfOk r (λ fits. fits.items ≡ a) → IfOk r (λ fits. fits.items ≡ b)
if_ok_items (Ok fits) a b same is = is ∙ same
if_ok_items (Err e) a b same is = tt
