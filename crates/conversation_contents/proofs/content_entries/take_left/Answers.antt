use Rattle.std.proofs.Common.{◌≡◌, ◌∙◌, ap, sym, subst, refl, position, Some, None}
use Rattle.std.specs.List.{position_or_len, remove, slice_get}
use Rattle.conversation_ids.specs.Ways.{fits}
use Rattle.conversation_contents.proofs.Indexes.{told_of_none}
use Rattle.conversation_contents.proofs.Lists.{none_read, none_removed, position_is_place}
use Rattle.conversation_contents.specs.Entries.{IsToldOf, entries_among}
use Rattle.conversation_contents.specs.Left.{index_in, index_of, left_entries}
use Rattle.conversation_contents.proofs.content_entries.take_left.Goals as goal

pub returns-in-Some-clause-told : goal.returns-in-Some-clause-told
returns-in-Some-clause-told c =
    let left = c.args.left.now in
    let passes = fits c.args.way c.args.id.now in
    let all = entries_among c.args.slots.now (Some left) in
    let found : position passes all ≡ Some (index_of c.in-Some.number (left_entries left)) = sym (c.first.ensures all c.requires.places) ∙ ap (index_in left) c.in-Some.is in
    subst (λ k. IsToldOf (slice_get all k) c.take_numbered.result) (sym (position_is_place passes all (index_of c.in-Some.number (left_entries left)) found)) c.take_numbered.ensures.told

pub returns-in-Some-clause-entries : goal.returns-in-Some-clause-entries
returns-in-Some-clause-entries c =
    let left = c.args.left.now in
    let passes = fits c.args.way c.args.id.now in
    let all = entries_among c.args.slots.now (Some left) in
    let found : position passes all ≡ Some (index_of c.in-Some.number (left_entries left)) = sym (c.first.ensures all c.requires.places) ∙ ap (index_in left) c.in-Some.is in
    c.take_numbered.ensures.entries ∙ ap (remove all) (sym (position_is_place passes all (index_of c.in-Some.number (left_entries left)) found))

pub returns-in-None-clause-told : goal.returns-in-None-clause-told
returns-in-None-clause-told c =
    let left = c.args.left.now in
    let passes = fits c.args.way c.args.id.now in
    let all = entries_among c.args.slots.now (Some left) in
    told_of_none (slice_get all (position_or_len passes all)) None (none_read passes all (sym (c.first.ensures all c.requires.places) ∙ ap (index_in left) c.in-None.is)) refl

pub returns-in-None-clause-entries : goal.returns-in-None-clause-entries
returns-in-None-clause-entries c =
    let left = c.args.left.now in
    let passes = fits c.args.way c.args.id.now in
    let all = entries_among c.args.slots.now (Some left) in
    sym (none_removed passes all (sym (c.first.ensures all c.requires.places) ∙ ap (index_in left) c.in-None.is))
