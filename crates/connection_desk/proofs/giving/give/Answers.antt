use Rattle.std.proofs.Common.{◌≡◌, [], sym, ap, subst, ◌∙◌, arith}
use Rattle.std.specs.Result.{IfOk}
use Rattle.connection_history.specs.Counts.{capped}
use Rattle.connection_history.specs.declared.order.Order.TheVariants.{AsCame}
use Rattle.connection_steps.specs.Steps.{leaving, staying}
use Rattle.open_calls.specs.Numbered.{changed_at}
use Rattle.owed_answers.specs.Owed.{given}
use Rattle.connection_desk.specs.Desks.{answer_count, answer_texts, with_texts}
use Rattle.connection_desk.proofs.GivenTexts.{all_kept, behind_waits}
use Rattle.connection_desk.proofs.OwedLists.{no_texts, ok_to, on_ok}
use Rattle.connection_desk.proofs.Rests.{other_place}
use Rattle.connection_desk.proofs.States.{owed_state as state_of}
use Rattle.connection_desk.proofs.giving.give.Goals as goal

pub returns-in-AsCame-2-clause-owed : goal.returns-in-AsCame-2-clause-owed
returns-in-AsCame-2-clause-owed c =
    let owed = c.args.owed.now.owed in
    let place = c.args.place in
    let now = changed_at place (given c.args.slot c.args.room.now.items) owed in
    let none : leaving AsCame now ≡ [] =
    behind_waits place (given c.args.slot c.args.room.now.items) owed
    (λ first. other_place c.first.result place (sym c.eq.ensures ∙ c.if-eq.false) (c.first.ensures.place ∙ first))
    (subst (λ o. leaving o owed ≡ []) c.in-AsCame.is c.requires) in
    ok_to c.give_behind.result _ _ _
    (ap (λ t. state_of c.args.owed.now.places (changed_at place (given c.args.slot t) owed)) c.deref.ensures.value
    ∙ ap (state_of c.args.owed.now.places) (all_kept AsCame now none).rest_is
    ∙ ap (λ o. state_of c.args.owed.now.places (staying o now)) (sym c.in-AsCame.is))
    c.give_behind.ensures.owed

pub returns-in-AsCame-2-clause-outbox : goal.returns-in-AsCame-2-clause-outbox
returns-in-AsCame-2-clause-outbox c =
    let owed = c.args.owed.now.owed in
    let out = c.args.outbox.now in
    let place = c.args.place in
    let now = changed_at place (given c.args.slot c.args.room.now.items) owed in
    let none : leaving AsCame now ≡ [] =
    behind_waits place (given c.args.slot c.args.room.now.items) owed
    (λ first. other_place c.first.result place (sym c.eq.ensures ∙ c.if-eq.false) (c.first.ensures.place ∙ first))
    (subst (λ o. leaving o owed ≡ []) c.in-AsCame.is c.requires) in
    on_ok c.give_behind.result
    (sym (no_texts out)
    ∙ ap (λ ts. with_texts ts out) (all_kept AsCame now none).texts_are
    ∙ ap (λ o. with_texts (answer_texts (leaving o now)) out) (sym c.in-AsCame.is))

pub returns-in-AsCame-2-clause-count : goal.returns-in-AsCame-2-clause-count
returns-in-AsCame-2-clause-count c =
    let owed = c.args.owed.now.owed in
    let place = c.args.place in
    let now = changed_at place (given c.args.slot c.args.room.now.items) owed in
    let none : leaving AsCame now ≡ [] =
    behind_waits place (given c.args.slot c.args.room.now.items) owed
    (λ first. other_place c.first.result place (sym c.eq.ensures ∙ c.if-eq.false) (c.first.ensures.place ∙ first))
    (subst (λ o. leaving o owed ≡ []) c.in-AsCame.is c.requires) in
    let is : 0 ≡ capped (answer_count (leaving AsCame now)) = omega (arith, (all_kept AsCame now none).count) in
    subst (λ n. IfOk c.give_behind.result (λ count. count ≡ n)) (is ∙ ap (λ o. capped (answer_count (leaving o now))) (sym c.in-AsCame.is)) c.give_behind.ensures.count
