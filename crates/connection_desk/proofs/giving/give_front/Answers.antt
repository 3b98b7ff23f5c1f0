use Rattle.std.proofs.Common.{◌≡◌, true, false, length-append, refl, sym, ap, ◌∙◌, arith}
use Rattle.connection_history.specs.Counts.{capped}
use Rattle.connection_history.specs.declared.order.Order.TheVariants.{AsCame}
use Rattle.connection_steps.specs.Steps.{complete_front, incomplete_rest, is_complete}
use Rattle.open_calls.specs.Numbered.{changed_at, next_number}
use Rattle.owed_answers.specs.Owed.{given, unit_texts}
use Rattle.connection_desk.specs.Desks.{answer_count, answer_texts, with_texts}
use Rattle.connection_desk.specs.Inner.{rest_of}
use Rattle.connection_desk.proofs.GivenTexts.{all_kept, given_to_none, front_waits, front_goes, written, written_back}
use Rattle.connection_desk.proofs.OwedLists.{count_texts, more_texts, no_texts, on_err, since_texts}
use Rattle.connection_desk.proofs.States.{owed_state as state_of}
use Rattle.connection_desk.proofs.giving.give_front.Goals as goal

-- there is no such unit

pub returns-in_default-clause-owed : goal.returns-in_default-clause-owed
returns-in_default-clause-owed c =
    let was = c.args.owed.now in
    ap (state_of was.places) (given_to_none AsCame c.args.place (given c.args.slot c.args.room.now.items) was.owed (sym c.in_default.ensures.unit) c.requires.settled).rest_is

pub returns-in_default-clause-outbox : goal.returns-in_default-clause-outbox
returns-in_default-clause-outbox c =
    sym (no_texts c.args.outbox.now)
    ∙ ap (λ ts. with_texts ts c.args.outbox.now) (given_to_none AsCame c.args.place (given c.args.slot c.args.room.now.items) c.args.owed.now.owed (sym c.in_default.ensures.unit) c.requires.settled).texts_are

pub returns-in_default-clause-count : goal.returns-in_default-clause-count
returns-in_default-clause-count c =
    omega (arith, (given_to_none AsCame c.args.place (given c.args.slot c.args.room.now.items) c.args.owed.now.owed (sym c.in_default.ensures.unit) c.requires.settled).count)

-- it is refused

pub returns-in_err-give-clause-owed_err : goal.returns-in_err-give-clause-owed_err
returns-in_err-give-clause-owed_err c =
    let was = c.args.owed.now in
    on_err c.from_residual.result
    (ap (state_of was.places) (written_back c.args.place c.in-Some.unit.now c.give.new.self was.owed c.get_mut.ensures.ascending (sym c.in-Some.ensures.unit) c.in_err-give.ensures.err))

pub returns-in_err-count-clause-owed_err : goal.returns-in_err-count-clause-owed_err
returns-in_err-count-clause-owed_err c =
    let was = c.args.owed.now in
    on_err c.from_residual-in_err-count.result
    (ap (state_of was.places) (written_back c.args.place c.in-Some.unit.now c.in-Some.unit.now was.owed c.get_mut.ensures.ascending (sym c.in-Some.ensures.unit) refl))

-- the unit isn't complete yet

pub returns-then-not-is_complete_with-clause-owed :
    goal.returns-then-not-is_complete_with-clause-owed
returns-then-not-is_complete_with-clause-owed c =
    let was = c.args.owed.now in
    let f = given c.args.slot c.args.room.now.items in
    let open_yet : is_complete (f c.in-Some.unit.now) ≡ false = sym (c.is_complete_with.ensures c.args.room.now.items) ∙ c.if-not-is_complete_with.true in
    let put = written c.args.place f c.in-Some.unit.now c.give.new.self was.owed c.get_mut.ensures.ascending (sym c.in-Some.ensures.unit)
    (c.in_ok-give.ensures.ok ∙ ap (λ t. given c.args.slot t c.in-Some.unit.now) c.as_slice.ensures.value) in
    ap (state_of was.places) (put ∙ (all_kept AsCame (changed_at c.args.place f was.owed) (front_waits c.an_entry_changes_or_goes.ensures.changed c.args.place f c.in-Some.unit.now was.owed (sym c.in-Some.ensures.unit) c.requires.first open_yet)).rest_is)

pub returns-then-not-is_complete_with-clause-outbox :
    goal.returns-then-not-is_complete_with-clause-outbox
returns-then-not-is_complete_with-clause-outbox c =
    let was = c.args.owed.now in
    let f = given c.args.slot c.args.room.now.items in
    let open_yet : is_complete (f c.in-Some.unit.now) ≡ false = sym (c.is_complete_with.ensures c.args.room.now.items) ∙ c.if-not-is_complete_with.true in
    sym (no_texts c.args.outbox.now) ∙ ap (λ ts. with_texts ts c.args.outbox.now) (all_kept AsCame (changed_at c.args.place f was.owed) (front_waits c.an_entry_changes_or_goes.ensures.changed c.args.place f c.in-Some.unit.now was.owed (sym c.in-Some.ensures.unit) c.requires.first open_yet)).texts_are

pub returns-then-not-is_complete_with-clause-count :
    goal.returns-then-not-is_complete_with-clause-count
returns-then-not-is_complete_with-clause-count c =
    let was = c.args.owed.now in
    let f = given c.args.slot c.args.room.now.items in
    let open_yet : is_complete (f c.in-Some.unit.now) ≡ false = sym (c.is_complete_with.ensures c.args.room.now.items) ∙ c.if-not-is_complete_with.true in
    omega (arith, (all_kept AsCame (changed_at c.args.place f was.owed) (front_waits c.an_entry_changes_or_goes.ensures.changed c.args.place f c.in-Some.unit.now was.owed (sym c.in-Some.ensures.unit) c.requires.first open_yet)).count)

-- it goes out, and those behind it do that can

pub returns-in-Ok-clause-owed : goal.returns-in-Ok-clause-owed
returns-in-Ok-clause-owed c =
    let was = c.args.owed.now in
    let unit = c.in-Some.unit.now in
    let f = given c.args.slot c.args.room.now.items in
    let whole : is_complete (f unit) ≡ true = sym (c.is_complete_with.ensures c.args.room.now.items) ∙ c.if-not-is_complete_with.false in
    let now = changed_at c.args.place (λ _. unit) was.owed in
    let same : now ≡ was.owed = written_back c.args.place unit unit was.owed c.get_mut.ensures.ascending (sym c.in-Some.ensures.unit) refl in
    c.remove_in_front.ensures
    ∙ ap (state_of was.places)
    (c.in-Ok.ensures.stays
    ∙ ap (λ o. incomplete_rest (rest_of o now)) c.next.ensures
    ∙ ap (λ es. incomplete_rest (rest_of (next_number c.args.place es) es)) same
    ∙ (front_goes c.numbers_above_one.ensures.at c.an_entry_changes_or_goes.ensures.changed c.args.place f unit was.owed c.get_mut.ensures.ascending (sym c.in-Some.ensures.unit) c.requires.first whole).rest_is)

pub returns-in-Ok-clause-outbox : goal.returns-in-Ok-clause-outbox
returns-in-Ok-clause-outbox c =
    let was = c.args.owed.now in
    let unit = c.in-Some.unit.now in
    let f = given c.args.slot c.args.room.now.items in
    let whole : is_complete (f unit) ≡ true = sym (c.is_complete_with.ensures c.args.room.now.items) ∙ c.if-not-is_complete_with.false in
    let now = changed_at c.args.place (λ _. unit) was.owed in
    let same : now ≡ was.owed = written_back c.args.place unit unit was.owed c.get_mut.ensures.ascending (sym c.in-Some.ensures.unit) refl in
    let out = c.args.outbox.now in
    let more = answer_texts (complete_front (rest_of (next_number c.args.place was.owed) was.owed)) in
    c.in-Ok.ensures.ok
    ∙ ap (λ o. with_texts (answer_texts (complete_front (rest_of o now))) c.write_with.new.outbox) c.next.ensures
    ∙ ap (λ es. with_texts (answer_texts (complete_front (rest_of (next_number c.args.place es) es))) c.write_with.new.outbox) same
    ∙ ap (with_texts more) c.in_ok-count.ensures.ok
    ∙ more_texts (unit_texts (f unit)) more out
    ∙ ap (λ ts. with_texts ts out) (front_goes c.numbers_above_one.ensures.at c.an_entry_changes_or_goes.ensures.changed c.args.place f unit was.owed c.get_mut.ensures.ascending (sym c.in-Some.ensures.unit) c.requires.first whole).texts_are

pub returns-in-Ok-clause-count : goal.returns-in-Ok-clause-count
returns-in-Ok-clause-count c =
    let was = c.args.owed.now in
    let unit = c.in-Some.unit.now in
    let f = given c.args.slot c.args.room.now.items in
    let whole : is_complete (f unit) ≡ true = sym (c.is_complete_with.ensures c.args.room.now.items) ∙ c.if-not-is_complete_with.false in
    let now = changed_at c.args.place (λ _. unit) was.owed in
    let same : now ≡ was.owed = written_back c.args.place unit unit was.owed c.get_mut.ensures.ascending (sym c.in-Some.ensures.unit) refl in
    let behind = complete_front (rest_of (next_number c.args.place was.owed) was.owed) in
    let more : c.in-Ok.more ≡ capped (answer_count behind) =
    c.in-Ok.ensures.count
    ∙ ap (λ o. capped (answer_count (complete_front (rest_of o now)))) c.next.ensures
    ∙ ap (λ es. capped (answer_count (complete_front (rest_of (next_number c.args.place es) es)))) same in
    omega (arith, c.saturating_add.ensures, c.in_ok-count.ensures.count, more, count_texts behind, length-append (unit_texts (f unit)) (answer_texts behind), (front_goes c.numbers_above_one.ensures.at c.an_entry_changes_or_goes.ensures.changed c.args.place f unit was.owed c.get_mut.ensures.ascending (sym c.in-Some.ensures.unit) c.requires.first whole).count)

-- those behind it are refused

pub back_to-requires : goal.back_to-requires
back_to-requires c =
    let texts = unit_texts (given c.args.slot c.args.room.now.items c.in-Some.unit.now) in
    since_texts texts c.mark-mark.result c.write_with.new.outbox c.write_each.new.outbox (c.in_ok-count.ensures.ok ∙ ap (with_texts texts) (sym c.mark-mark.ensures)) c.in-Err.ensures.err

pub returns-in-Err-clause-owed_err : goal.returns-in-Err-clause-owed_err
returns-in-Err-clause-owed_err c =
    let was = c.args.owed.now in
    ap (state_of was.places) (written_back c.args.place c.in-Some.unit.now c.in-Some.unit.now was.owed c.get_mut.ensures.ascending (sym c.in-Some.ensures.unit) refl)
