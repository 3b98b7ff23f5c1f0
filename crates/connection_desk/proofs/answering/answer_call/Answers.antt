use Rattle.std.proofs.Common.{sym, ap, ◌∙◌}
use Rattle.connection_steps.specs.Steps.{given_to, staying}
use Rattle.connection_desk.specs.Inner.{given_answer}
use Rattle.connection_desk.proofs.GivenSlots.{all_stays}
use Rattle.connection_desk.proofs.States.{owed_state as state_of}
use Rattle.connection_desk.proofs.answering.answer_call.Goals as goal

pub returns-in_default-clause-owed : goal.returns-in_default-clause-owed
returns-in_default-clause-owed c =
    let was = c.args.owed.now in
    ap (state_of was.places)
    (sym (all_stays c.args.order was.owed c.requires)
    ∙ ap (λ id. staying c.args.order (given_to id c.args.call.now (given_answer c.args.given) was.owed)) (sym c.in_default.is))
