use Rattle.std.proofs.Common.{refl}
use Rattle.connection_history.specs.History.{called, called_all, noticed, withdrew, ended}
use Rattle.connection_steps.proofs.OwedSame.{silent-owed, silent-answers}
use Rattle.connection_steps.proofs.what_is_owed.nothing_else_changes_what_is_owed.Goals as goal

pub returns-clause-called : goal.returns-clause-called
returns-clause-called c order past number outgoing =
    (silent-owed order past (called number outgoing) refl (λ k. refl), silent-answers order past (called number outgoing) refl (λ k. refl))

pub returns-clause-called_all : goal.returns-clause-called_all
returns-clause-called_all c order past number outgoings =
    (silent-owed order past (called_all number outgoings) refl (λ k. refl), silent-answers order past (called_all number outgoings) refl (λ k. refl))

pub returns-clause-noticed : goal.returns-clause-noticed
returns-clause-noticed c order past outgoing =
    (silent-owed order past (noticed outgoing) refl (λ k. refl), silent-answers order past (noticed outgoing) refl (λ k. refl))

pub returns-clause-withdrew : goal.returns-clause-withdrew
returns-clause-withdrew c order past by key =
    (silent-owed order past (withdrew by key) refl (λ k. refl), silent-answers order past (withdrew by key) refl (λ k. refl))

pub returns-clause-ended : goal.returns-clause-ended
returns-clause-ended c order past close =
    (silent-owed order past (ended close) refl (λ k. refl), silent-answers order past (ended close) refl (λ k. refl))
