use Rattle.std.proofs.Common.{◌≡◌, ◌<◌, Some, length, sym, ap, subst, ◌∙◌}
use Rattle.open_calls.specs.Numbered.{first_number}
use Rattle.owed_answers.specs.Owed.{OwedState}
use Rattle.connection_desk.specs.Inner.{rest_of}
use Rattle.connection_desk.proofs.OwedLists.{same_state}
use Rattle.connection_desk.proofs.Rests.{first_fewer, rest_gone, rest_at_first, rest_none, same_place, other_place}
use Rattle.connection_desk.proofs.leaving.remove_in_front.Goals as goal

pub loop-place-smaller : goal.loop-place-smaller
loop-place-smaller c =
    let owed = c.loop-place.owed.owed in
    let place = c.in-Some.place in
    let first : first_number owed ≡ Some place = sym c.first.ensures.place ∙ c.in-Some.is in
    subst (λ (s : OwedState). length s.owed < length owed) (sym c.remove.ensures.state) (first_fewer c.an_entry_changes_or_goes.ensures.fewer place owed first)

pub loop-place-preserved : goal.loop-place-preserved
loop-place-preserved c =
    let owed = c.loop-place.owed.owed in
    let place = c.in-Some.place in
    let first : first_number owed ≡ Some place = sym c.first.ensures.place ∙ c.in-Some.is in
    record {
      places = ap (λ (s : OwedState). s.places) c.remove.ensures.state ∙ c.loop-place.invariant.places;
      rest = ap (λ (s : OwedState). rest_of c.args.stays s.owed) c.remove.ensures.state
          ∙ rest_gone c.numbers_above_one.ensures.without place c.args.stays owed c.first.ensures.ascending first (other_place c.args.stays place (sym c.eq.ensures ∙ c.if-eq.false))
          ∙ c.loop-place.invariant.rest;
    }

pub returns-then-eq : goal.returns-then-eq
returns-then-eq c =
    let owed = c.loop-place.owed.owed in
    let place = c.in-Some.place in
    let first : first_number owed ≡ Some place = sym c.first.ensures.place ∙ c.in-Some.is in
    same_state c.loop-place.owed c.args.owed.now.places (rest_of c.args.stays c.args.owed.now.owed) c.loop-place.invariant.places
    (sym (rest_at_first c.args.stays place owed first (same_place c.args.stays place (sym c.eq.ensures ∙ c.if-eq.true))) ∙ c.loop-place.invariant.rest)

pub returns-in_default : goal.returns-in_default
returns-in_default c =
    let owed = c.loop-place.owed.owed in
    same_state c.loop-place.owed c.args.owed.now.places (rest_of c.args.stays c.args.owed.now.owed) c.loop-place.invariant.places
    (sym (rest_none c.args.stays owed (sym c.first.ensures.place ∙ c.in_default.is)) ∙ c.loop-place.invariant.rest)
