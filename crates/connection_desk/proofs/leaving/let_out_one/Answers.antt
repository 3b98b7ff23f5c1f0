use Rattle.std.proofs.Common.{◌≡◌, true, false, cond, is_some, unwrap_or, sym, ap, ◌∙◌}
use Rattle.open_calls.specs.Numbered.{without}
use Rattle.connection_desk.specs.Desks.{with_texts}
use Rattle.connection_desk.specs.Inner.{complete_at}
use Rattle.connection_desk.proofs.States.{owed_state as state_of}
use Rattle.connection_desk.proofs.OwedLists.{only_text, only_rest, only_count}
use Rattle.connection_desk.proofs.leaving.let_out_one.Goals as goal

pub returns-in_default-clause-owed : goal.returns-in_default-clause-owed
returns-in_default-clause-owed c =
    let owed = c.args.owed.now.owed in
    let place = c.args.place in
    let open_yet : complete_at place owed ≡ false = sym c.in_ok-count.ensures.complete ∙ ap is_some c.in_default.is in
    ap (λ es. state_of c.args.owed.now.places es)
    (sym (ap (λ b. cond b (without place owed) owed) open_yet) ∙ only_rest c.numbers_above_one.ensures.without place owed c.write_complete.ensures.ascending c.requires)

pub returns-in_default-clause-outbox : goal.returns-in_default-clause-outbox
returns-in_default-clause-outbox c =
    c.in_ok-count.ensures.ok
    ∙ ap (λ ts. with_texts ts c.args.outbox.now) (only_text c.numbers_above_one.ensures.without c.args.place c.args.owed.now.owed c.write_complete.ensures.ascending c.requires)

pub returns-in_default-clause-count : goal.returns-in_default-clause-count
returns-in_default-clause-count c =
    sym (ap (λ o. unwrap_or o 0) c.in_default.is) ∙ c.in_ok-count.ensures.count
    ∙ only_count c.numbers_above_one.ensures.without c.args.place c.args.owed.now.owed c.write_complete.ensures.ascending c.requires

pub returns-clause-owed : goal.returns-clause-owed
returns-clause-owed c =
    let owed = c.args.owed.now.owed in
    let place = c.args.place in
    let done : complete_at place owed ≡ true = sym c.in_ok-count.ensures.complete ∙ ap is_some c.in-Some.is in
    c.remove.ensures.state
    ∙ ap (λ es. state_of c.args.owed.now.places es)
    (sym (ap (λ b. cond b (without place owed) owed) done) ∙ only_rest c.numbers_above_one.ensures.without place owed c.write_complete.ensures.ascending c.requires)

pub returns-clause-outbox : goal.returns-clause-outbox
returns-clause-outbox c =
    c.in_ok-count.ensures.ok
    ∙ ap (λ ts. with_texts ts c.args.outbox.now) (only_text c.numbers_above_one.ensures.without c.args.place c.args.owed.now.owed c.write_complete.ensures.ascending c.requires)

pub returns-clause-count : goal.returns-clause-count
returns-clause-count c =
    sym (ap (λ o. unwrap_or o 0) c.in-Some.is) ∙ c.in_ok-count.ensures.count
    ∙ only_count c.numbers_above_one.ensures.without c.args.place c.args.owed.now.owed c.write_complete.ensures.ascending c.requires
