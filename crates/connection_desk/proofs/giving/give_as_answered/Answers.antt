use Rattle.std.proofs.Common.{◌≡◌, true, false, refl, sym, ap, ◌∙◌, arith}
use Rattle.connection_history.specs.declared.order.Order.TheVariants.{AsAnswered}
use Rattle.connection_steps.specs.Steps.{is_complete}
use Rattle.owed_answers.specs.Owed.{given}
use Rattle.connection_desk.specs.Desks.{with_texts}
use Rattle.connection_desk.proofs.GivenTexts.{given_to_none, answered_waits, answered_goes, without_changed, written, written_back}
use Rattle.connection_desk.proofs.OwedLists.{no_texts, on_err, unit_few}
use Rattle.connection_desk.proofs.States.{owed_state as state_of}
use Rattle.connection_desk.proofs.giving.give_as_answered.Goals as goal

-- there is no such unit

pub returns-in_default-clause-owed : goal.returns-in_default-clause-owed
returns-in_default-clause-owed c =
    let was = c.args.owed.now in
    ap (state_of was.places) (given_to_none AsAnswered c.args.place (given c.args.slot c.args.room.now.items) was.owed (sym c.in_default.ensures.unit) c.requires).rest_is

pub returns-in_default-clause-outbox : goal.returns-in_default-clause-outbox
returns-in_default-clause-outbox c =
    sym (no_texts c.args.outbox.now)
    ∙ ap (λ ts. with_texts ts c.args.outbox.now) (given_to_none AsAnswered c.args.place (given c.args.slot c.args.room.now.items) c.args.owed.now.owed (sym c.in_default.ensures.unit) c.requires).texts_are

pub returns-in_default-clause-count : goal.returns-in_default-clause-count
returns-in_default-clause-count c =
    omega (arith, (given_to_none AsAnswered c.args.place (given c.args.slot c.args.room.now.items) c.args.owed.now.owed (sym c.in_default.ensures.unit) c.requires).count)

-- it is refused

pub returns-in_err-give-clause-owed_err : goal.returns-in_err-give-clause-owed_err
returns-in_err-give-clause-owed_err c =
    let was = c.args.owed.now in
    on_err c.from_residual.result
    (ap (state_of was.places) (written_back c.args.place c.in-Some.unit.now c.give.new.self was.owed c.get_mut.ensures.ascending (sym c.in-Some.ensures.unit) c.in_err-give.ensures.err))

pub returns-in_err-count-clause-owed_err : goal.returns-in_err-count-clause-owed_err
returns-in_err-count-clause-owed_err c =
    let was = c.args.owed.now in
    on_err c.from_residual-in_err-count.result
    (ap (state_of was.places) (written_back c.args.place c.in-Some.unit.now c.in-Some.unit.now was.owed c.get_mut.ensures.ascending (sym c.in-Some.ensures.unit) refl))

-- the unit isn't complete yet

pub returns-then-not-is_complete_with-clause-owed :
    goal.returns-then-not-is_complete_with-clause-owed
returns-then-not-is_complete_with-clause-owed c =
    let was = c.args.owed.now in
    let f = given c.args.slot c.args.room.now.items in
    let open_yet : is_complete (f c.in-Some.unit.now) ≡ false = sym (c.is_complete_with.ensures c.args.room.now.items) ∙ c.if-not-is_complete_with.true in
    let put = written c.args.place f c.in-Some.unit.now c.give.new.self was.owed c.get_mut.ensures.ascending (sym c.in-Some.ensures.unit)
    (c.in_ok-give.ensures.ok ∙ ap (λ t. given c.args.slot t c.in-Some.unit.now) c.as_slice.ensures.value) in
    ap (state_of was.places) (put ∙ (answered_waits c.an_entry_changes_or_goes.ensures.changed c.numbers_above_one.ensures.without c.args.place f c.in-Some.unit.now was.owed c.get_mut.ensures.ascending (sym c.in-Some.ensures.unit) c.requires open_yet).rest_is)

pub returns-then-not-is_complete_with-clause-outbox :
    goal.returns-then-not-is_complete_with-clause-outbox
returns-then-not-is_complete_with-clause-outbox c =
    let was = c.args.owed.now in
    let f = given c.args.slot c.args.room.now.items in
    let open_yet : is_complete (f c.in-Some.unit.now) ≡ false = sym (c.is_complete_with.ensures c.args.room.now.items) ∙ c.if-not-is_complete_with.true in
    sym (no_texts c.args.outbox.now) ∙ ap (λ ts. with_texts ts c.args.outbox.now) (answered_waits c.an_entry_changes_or_goes.ensures.changed c.numbers_above_one.ensures.without c.args.place f c.in-Some.unit.now was.owed c.get_mut.ensures.ascending (sym c.in-Some.ensures.unit) c.requires open_yet).texts_are

pub returns-then-not-is_complete_with-clause-count :
    goal.returns-then-not-is_complete_with-clause-count
returns-then-not-is_complete_with-clause-count c =
    let was = c.args.owed.now in
    let f = given c.args.slot c.args.room.now.items in
    let open_yet : is_complete (f c.in-Some.unit.now) ≡ false = sym (c.is_complete_with.ensures c.args.room.now.items) ∙ c.if-not-is_complete_with.true in
    omega (arith, (answered_waits c.an_entry_changes_or_goes.ensures.changed c.numbers_above_one.ensures.without c.args.place f c.in-Some.unit.now was.owed c.get_mut.ensures.ascending (sym c.in-Some.ensures.unit) c.requires open_yet).count)

-- its answer goes out

pub returns-clause-owed : goal.returns-clause-owed
returns-clause-owed c =
    let was = c.args.owed.now in
    let f = given c.args.slot c.args.room.now.items in
    let whole : is_complete (f c.in-Some.unit.now) ≡ true = sym (c.is_complete_with.ensures c.args.room.now.items) ∙ c.if-not-is_complete_with.false in
    c.remove.ensures.state ∙ ap (state_of was.places) (without_changed c.args.place (λ _. c.in-Some.unit.now) was.owed ∙ (answered_goes c.an_entry_changes_or_goes.ensures.changed c.numbers_above_one.ensures.without c.args.place f c.in-Some.unit.now was.owed c.get_mut.ensures.ascending (sym c.in-Some.ensures.unit) c.requires whole).rest_is)

pub returns-clause-outbox : goal.returns-clause-outbox
returns-clause-outbox c =
    let was = c.args.owed.now in
    let f = given c.args.slot c.args.room.now.items in
    let whole : is_complete (f c.in-Some.unit.now) ≡ true = sym (c.is_complete_with.ensures c.args.room.now.items) ∙ c.if-not-is_complete_with.false in
    c.in_ok-count.ensures.ok ∙ ap (λ ts. with_texts ts c.args.outbox.now) (answered_goes c.an_entry_changes_or_goes.ensures.changed c.numbers_above_one.ensures.without c.args.place f c.in-Some.unit.now was.owed c.get_mut.ensures.ascending (sym c.in-Some.ensures.unit) c.requires whole).texts_are

pub returns-clause-count : goal.returns-clause-count
returns-clause-count c =
    let was = c.args.owed.now in
    let f = given c.args.slot c.args.room.now.items in
    let whole : is_complete (f c.in-Some.unit.now) ≡ true = sym (c.is_complete_with.ensures c.args.room.now.items) ∙ c.if-not-is_complete_with.false in
    omega (arith, c.in_ok-count.ensures.count, unit_few (f c.in-Some.unit.now), (answered_goes c.an_entry_changes_or_goes.ensures.changed c.numbers_above_one.ensures.without c.args.place f c.in-Some.unit.now was.owed c.get_mut.ensures.ascending (sym c.in-Some.ensures.unit) c.requires whole).count)
