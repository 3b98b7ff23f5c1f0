use Rattle.std.proofs.Common.{◌∙◌, ap, sym, map, Some, option_map}
use Rattle.std.specs.Prelude.{option_and_then}
use Rattle.std.specs.List.{slice_get}
use Rattle.conversation_rules.specs.Dues.{fit_of}
use Rattle.conversation_contents.specs.Left.{index_of, left_entries, places_of}
use Rattle.conversation_dues.specs.Left.{left_after}
use Rattle.conversation_contents.proofs.Lists.{at-left, remove-left}
use Rattle.conversation_dues.proofs.arrays.fit_taken.Goals as goal

pub returns-in-Some-take-clause-left : goal.returns-in-Some-take-clause-left
returns-in-Some-take-clause-left c = λ left is.
    let at = slice_get c.args.entries.now in
    let same = c.in-Some.ensures left is in
    ap (map at) c.take.ensures.places ∙ remove-left at (places_of c.args.places.now) left (index_of c.in-Some.number (left_entries c.args.places.now)) is ∙ ap (λ o. map Some (left_after o left)) same

pub returns-in-Some-take-clause-fit : goal.returns-in-Some-take-clause-fit
returns-in-Some-take-clause-fit c = λ left is.
    let at = slice_get c.args.entries.now in
    let same = c.in-Some.ensures left is in
    c.fit_at.ensures
    ∙ ap (λ o. option_map (fit_of c.args.due.now) (option_and_then at o)) (sym c.in-Some-take.is ∙ c.take.ensures.place)
    ∙ ap (option_map (fit_of c.args.due.now)) (at-left at (places_of c.args.places.now) left (index_of c.in-Some.number (left_entries c.args.places.now)) is)
    ∙ ap (option_and_then (λ place. option_map (fit_of c.args.due.now) (slice_get left place))) same

pub returns-in-None-take-clause-left : goal.returns-in-None-take-clause-left
returns-in-None-take-clause-left c = λ left is.
    let at = slice_get c.args.entries.now in
    let same = c.in-Some.ensures left is in
    ap (map at) c.take.ensures.places ∙ remove-left at (places_of c.args.places.now) left (index_of c.in-Some.number (left_entries c.args.places.now)) is ∙ ap (λ o. map Some (left_after o left)) same

pub returns-in-None-take-clause-fit : goal.returns-in-None-take-clause-fit
returns-in-None-take-clause-fit c = λ left is.
    let at = slice_get c.args.entries.now in
    let same = c.in-Some.ensures left is in
    ap (λ o. option_map (fit_of c.args.due.now) (option_and_then at o)) (sym c.in-None-take.is ∙ c.take.ensures.place)
    ∙ ap (option_map (fit_of c.args.due.now)) (at-left at (places_of c.args.places.now) left (index_of c.in-Some.number (left_entries c.args.places.now)) is)
    ∙ ap (option_and_then (λ place. option_map (fit_of c.args.due.now) (slice_get left place))) same

pub returns-in-None-clause-fit : goal.returns-in-None-clause-fit
returns-in-None-clause-fit c = λ left is.
    let at = slice_get c.args.entries.now in
    let same = c.in-None.ensures left is in
    ap (option_and_then (λ place. option_map (fit_of c.args.due.now) (slice_get left place))) same
