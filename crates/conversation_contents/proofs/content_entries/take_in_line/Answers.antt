use Rattle.std.proofs.Common.{◌≡◌, ◌<◌, ◌∙◌, ap, sym, subst, refl, length, position, Some, None}
use Rattle.std.specs.List.{position_or_len, remove, slice_get}
use Rattle.std.proofs.lemmas.Option.{slice_get_read}
use Rattle.conversation_ids.specs.Ways.{fits}
use Rattle.conversation_contents.proofs.Indexes.{told_of_none, told_of_some}
use Rattle.conversation_contents.proofs.Lists.{none_read, none_removed, position_is_place}
use Rattle.conversation_contents.proofs.content_entries.take_in_line.Goals as goal

pub returns-in-Some-clause-told : goal.returns-in-Some-clause-told
returns-in-Some-clause-told c =
    let entries = c.args.slots.now.items in
    let passes = fits c.args.way c.args.id.now in
    let found : position passes entries ≡ Some c.in-Some.place = ap (position passes) (sym c.as_slice.ensures.value) ∙ sym c.place_of.ensures.place ∙ c.in-Some.is in
    let within : c.in-Some.place < length entries = subst (λ es. c.in-Some.place < length es) c.as_slice.ensures.value c.in-Some.ensures.within in
    told_of_some (slice_get entries (position_or_len passes entries)) c.remove-owed.result c.of.result
    (ap (slice_get entries) (position_is_place passes entries c.in-Some.place found) ∙ slice_get_read entries (length entries) c.in-Some.place c.remove-owed.result refl within c.remove-owed.ensures.value)
    c.of.ensures

pub returns-in-Some-clause-entries : goal.returns-in-Some-clause-entries
returns-in-Some-clause-entries c =
    let entries = c.args.slots.now.items in
    let passes = fits c.args.way c.args.id.now in
    let found : position passes entries ≡ Some c.in-Some.place = ap (position passes) (sym c.as_slice.ensures.value) ∙ sym c.place_of.ensures.place ∙ c.in-Some.is in
    c.remove-owed.ensures.items ∙ ap (remove entries) (sym (position_is_place passes entries c.in-Some.place found))

pub returns-in-None-clause-told : goal.returns-in-None-clause-told
returns-in-None-clause-told c =
    let entries = c.args.slots.now.items in
    let passes = fits c.args.way c.args.id.now in
    told_of_none (slice_get entries (position_or_len passes entries)) None
    (none_read passes entries (ap (position passes) (sym c.as_slice.ensures.value) ∙ sym c.place_of.ensures.place ∙ c.in-None.is)) refl

pub returns-in-None-clause-entries : goal.returns-in-None-clause-entries
returns-in-None-clause-entries c =
    let entries = c.args.slots.now.items in
    let passes = fits c.args.way c.args.id.now in
    sym (none_removed passes entries (ap (position passes) (sym c.as_slice.ensures.value) ∙ sym c.place_of.ensures.place ∙ c.in-None.is))
