use Rattle.std.proofs.Common.{◌≡◌, ◌++◌, ◌∙◌, List, Option, ap, map}
use Rattle.std.specs.List.{slice_get}
use Rattle.conversation_rules.specs.Dues.{fits_of, in_order, array_fits}
use Rattle.conversation_rules.specs.Owed.{Owed}
use Rattle.conversation_rules.specs.declared.found.Fit.{Fit}
use Rattle.conversation_dues.specs.Left.{ids_of, left_of}
use Rattle.conversation_contents.specs.Left.{IsLeftOf, places_of}
use Rattle.conversation_dues.specs.declared.arrays.Which.TheVariants.{Named, Nulls}
use Rattle.conversation_dues.proofs.Fits.{array_fits-is, if_ok_items}
use Rattle.conversation_dues.proofs.arrays.array_fits.Goals as goal

pub returns : goal.returns
returns c =
    let due = c.args.due.now in
    let ids = c.args.ids.now in
    let rest : List Owed = left_of (ids_of Named ids) due.entries in
    let A : List (Option Fit) = fits_of due (ids_of Named ids) due.entries in
    let B : List (Option Fit) = fits_of due (ids_of Nulls ids) rest in
    let read = slice_get c.in_ok-entries.entries.now in
    let all : IsLeftOf read (places_of c.in_ok-left.left) due.entries = ap (map read) (c.in_ok-left.ensures.places ∙ c.as_slice.ensures.value) ∙ c.in_ok-entries.ensures in
    let first = c.in_ok-put_fits.ensures.fits due.entries all in
    let second = c.in_ok-put_fits-2.ensures.fits rest first.0 in
    let named : c.put_fits.new.fits.items ≡ A = first.1 ∙ ap (λ fs. fs ++ A) c.new-named.ensures.items in
    let nulls : c.put_fits-2.new.fits.items ≡ B = second.1 ∙ ap (λ fs. fs ++ B) c.new-nulls.ensures.items in
    if_ok_items c.in_order.result (in_order ids c.as_slice-2.result.now c.as_slice-3.result.now) (array_fits ids due)
    (array_fits-is due ids c.as_slice-2.result.now c.as_slice-3.result.now (c.as_slice-2.ensures.value ∙ named) (c.as_slice-3.ensures.value ∙ nulls))
    c.in_order.ensures
