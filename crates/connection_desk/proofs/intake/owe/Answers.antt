use Rattle.std.proofs.Common.{◌+◌, ◌++◌, ◌∷◌, [], append-nil, ap, sym, ◌∙◌, arith}
use Rattle.connection_steps.specs.Steps.{leaving, staying}
use Rattle.connection_desk.specs.Desks.{answer_count, answer_texts, with_answers, with_texts}
use Rattle.connection_desk.specs.Inner.{owed_in}
use Rattle.connection_desk.proofs.Counting.{no_answers}
use Rattle.connection_desk.proofs.OwedLists.{no_texts}
use Rattle.connection_desk.proofs.Owing.{state_of, all-staying, lacking-stays}
use Rattle.connection_desk.proofs.intake.owe.Goals as goal

pub returns-in_default-clause-owed : goal.returns-in_default-clause-owed
returns-in_default-clause-owed c =
    let was = c.args.owed.now in
    c.skip.ensures
    ∙ ap (λ es. state_of (was.places + 1) es)
    (sym (all-staying c.args.order was.owed c.requires)
    ∙ ap (λ es. staying c.args.order es) (sym (append-nil was.owed))
    ∙ ap (λ due. staying c.args.order (was.owed ++ owed_in was.places due)) (sym c.in_default.is))

pub returns-then-is_lacking-clause-owed : goal.returns-then-is_lacking-clause-owed
returns-then-is_lacking-clause-owed c =
    let was = c.args.owed.now in
    let now = was.owed ++ (was.places, c.in-Some.unit) ∷ [] in
    let none = lacking-stays c.args.order was.places c.in-Some.unit was.owed c.requires (omega (arith, c.lacking-is_lacking.ensures)) in
    c.in_ok-open.ensures.ok
    ∙ ap (λ es. state_of (was.places + 1) es) (sym (all-staying c.args.order now none))
    ∙ ap (λ due. state_of (was.places + 1) (staying c.args.order (was.owed ++ owed_in was.places due))) (sym c.in-Some.is)

pub returns-then-is_lacking-clause-outbox : goal.returns-then-is_lacking-clause-outbox
returns-then-is_lacking-clause-outbox c =
    let was = c.args.owed.now in
    let none = lacking-stays c.args.order was.places c.in-Some.unit was.owed c.requires (omega (arith, c.lacking-is_lacking.ensures)) in
    sym (ap (λ due. with_texts (answer_texts (leaving c.args.order (was.owed ++ owed_in was.places due))) c.args.outbox.now) c.in-Some.is
    ∙ ap (λ es. with_texts (answer_texts es) c.args.outbox.now) none ∙ no_texts c.args.outbox.now)

pub returns-then-is_lacking-clause-tally : goal.returns-then-is_lacking-clause-tally
returns-then-is_lacking-clause-tally c =
    let was = c.args.owed.now in
    let none = lacking-stays c.args.order was.places c.in-Some.unit was.owed c.requires (omega (arith, c.lacking-is_lacking.ensures)) in
    sym (ap (λ due. with_answers (answer_count (leaving c.args.order (was.owed ++ owed_in was.places due))) c.args.tally.now) c.in-Some.is
    ∙ ap (λ es. with_answers (answer_count es) c.args.tally.now) none ∙ no_answers c.args.tally.now (omega arith))
