use Rattle.std.proofs.Common.{◌≡◌, ◌∙◌, ap, sym, subst, map, Some}
use Rattle.std.specs.List.{slice_get}
use Rattle.conversation_contents.proofs.Indexes.{all_indexed}
use Rattle.conversation_contents.proofs.Lists.{among_is}
use Rattle.conversation_contents.specs.Entries.{IsIndexOf, entries_among}
use Rattle.conversation_contents.specs.Left.{places_of}
use Rattle.conversation_contents.proofs.content_entries.indexed.Goals as goal

pub returns-clause-among : goal.returns-clause-among
returns-clause-among c =
    let slots = c.args.slots.now in
    let all : map (slice_get slots) (places_of c.in_ok-left.left) ≡ map Some slots = ap (map (slice_get slots)) (c.in_ok-left.ensures.places ∙ c.as_slice.ensures.value) ∙ c.in_ok-places.ensures in
    ap (λ left. entries_among slots (Some left)) c.in_ok-new.ensures.ok ∙ among_is (slice_get slots) (places_of c.in_ok-left.left) slots all

pub returns-clause-stands : goal.returns-clause-stands
returns-clause-stands c =
    let slots = c.args.slots.now in
    let all : map (slice_get slots) (places_of c.in_ok-left.left) ≡ map Some slots = ap (map (slice_get slots)) (c.in_ok-left.ensures.places ∙ c.as_slice.ensures.value) ∙ c.in_ok-places.ensures in
    subst (IsIndexOf slots) (sym c.in_ok-new.ensures.ok) (all_indexed slots c.as_slice.result.now c.in_ok-left.left all c.in_ok-left.ensures.places c.in_ok-left.ensures.findable c.in_ok-left.ensures.below)
