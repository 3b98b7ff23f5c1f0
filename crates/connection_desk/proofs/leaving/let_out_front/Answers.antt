use Rattle.std.proofs.Common.{ap, ◌∙◌}
use Rattle.connection_history.specs.Counts.{capped}
use Rattle.connection_steps.specs.Steps.{complete_front, incomplete_rest}
use Rattle.connection_desk.specs.Desks.{answer_count, answer_texts, with_texts}
use Rattle.connection_desk.specs.Inner.{rest_of}
use Rattle.connection_desk.proofs.Rests.{rest_first}
use Rattle.connection_desk.proofs.States.{owed_state as state_of}
use Rattle.connection_desk.proofs.leaving.let_out_front.Goals as goal

pub returns-in-Ok-clause-owed : goal.returns-in-Ok-clause-owed
returns-in-Ok-clause-owed c =
    let owed = c.args.owed.now.owed in
    c.remove_in_front.ensures
    ∙ ap (state_of c.args.owed.now.places)
    (c.in-Ok.ensures.stays ∙ ap (λ o. incomplete_rest (rest_of o owed)) c.first.ensures.place ∙ ap incomplete_rest (rest_first owed))

pub returns-in-Ok-clause-outbox : goal.returns-in-Ok-clause-outbox
returns-in-Ok-clause-outbox c =
    let owed = c.args.owed.now.owed in
    c.in-Ok.ensures.ok
    ∙ ap (λ es. with_texts (answer_texts (complete_front es)) c.args.outbox.now) (ap (λ o. rest_of o owed) c.first.ensures.place ∙ rest_first owed)

pub returns-in-Ok-clause-count : goal.returns-in-Ok-clause-count
returns-in-Ok-clause-count c =
    let owed = c.args.owed.now.owed in
    c.in-Ok.ensures.count
    ∙ ap (λ es. capped (answer_count (complete_front es))) (ap (λ o. rest_of o owed) c.first.ensures.place ∙ rest_first owed)
