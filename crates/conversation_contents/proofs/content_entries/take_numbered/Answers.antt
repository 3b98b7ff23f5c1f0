use Rattle.std.proofs.Common.{◌∙◌, ap, sym, subst, refl, Some, None}
use Rattle.std.specs.List.{slice_get}
use Rattle.std.specs.Option.{option_and_then}
use Rattle.conversation_contents.proofs.Indexes.{told_of_none, taken_among, taken_indexed}
use Rattle.conversation_contents.proofs.Lists.{at-left}
use Rattle.conversation_contents.specs.Entries.{IsToldOf, entries_among}
use Rattle.conversation_contents.specs.Left.{index_of, left_entries, places_of}
use Rattle.conversation_contents.proofs.content_entries.take_numbered.Goals as goal

pub returns-in-Some-clause-told : goal.returns-in-Some-clause-told
returns-in-Some-clause-told c =
    let read = slice_get c.args.slots.now in
    let left = c.args.left.now in
    let k = index_of c.args.number (left_entries left) in
    subst (λ o. IsToldOf o c.told_at.result)
    (ap (option_and_then read) (sym c.in-Some.is ∙ c.take.ensures.place) ∙ at-left read (places_of left) (entries_among c.args.slots.now (Some left)) k c.requires.places)
    c.told_at.ensures

pub returns-in-Some-clause-entries : goal.returns-in-Some-clause-entries
returns-in-Some-clause-entries c = taken_among c.args.slots.now c.args.left.now c.take.new.self (index_of c.args.number (left_entries c.args.left.now)) c.requires.places c.take.ensures.places

pub returns-in-Some-clause-stands : goal.returns-in-Some-clause-stands
returns-in-Some-clause-stands c = taken_indexed c.args.slots.now c.args.left.now c.take.new.self (index_of c.args.number (left_entries c.args.left.now)) c.requires c.take.ensures.places c.take.ensures.findable c.take.ensures.below

pub returns-in-None-clause-told : goal.returns-in-None-clause-told
returns-in-None-clause-told c =
    let read = slice_get c.args.slots.now in
    let left = c.args.left.now in
    let k = index_of c.args.number (left_entries left) in
    told_of_none (slice_get (entries_among c.args.slots.now (Some left)) k) None
    (sym (at-left read (places_of left) (entries_among c.args.slots.now (Some left)) k c.requires.places) ∙ ap (option_and_then read) (sym c.take.ensures.place ∙ c.in-None.is)) refl

pub returns-in-None-clause-entries : goal.returns-in-None-clause-entries
returns-in-None-clause-entries c = taken_among c.args.slots.now c.args.left.now c.take.new.self (index_of c.args.number (left_entries c.args.left.now)) c.requires.places c.take.ensures.places

pub returns-in-None-clause-stands : goal.returns-in-None-clause-stands
returns-in-None-clause-stands c = taken_indexed c.args.slots.now c.args.left.now c.take.new.self (index_of c.args.number (left_entries c.args.left.now)) c.requires c.take.ensures.places c.take.ensures.findable c.take.ensures.below
