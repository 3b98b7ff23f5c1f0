use Rattle.std.proofs.Common.{refl}
use Rattle.connection_history.specs.History.{called, called_all, noticed, withdrew, ended}
use Rattle.connection_steps.proofs.Counted.{tally-silent}
use Rattle.connection_steps.proofs.tallies.nothing_else_is_counted.Goals as goal

pub returns-clause-called : goal.returns-clause-called
returns-clause-called c order past number outgoing = tally-silent order past (called number outgoing) refl (λ k. refl) refl

pub returns-clause-called_all : goal.returns-clause-called_all
returns-clause-called_all c order past number outgoings = tally-silent order past (called_all number outgoings) refl (λ k. refl) refl

pub returns-clause-noticed : goal.returns-clause-noticed
returns-clause-noticed c order past outgoing = tally-silent order past (noticed outgoing) refl (λ k. refl) refl

pub returns-clause-withdrew : goal.returns-clause-withdrew
returns-clause-withdrew c order past by key = tally-silent order past (withdrew by key) refl (λ k. refl) refl

pub returns-clause-ended : goal.returns-clause-ended
returns-clause-ended c order past close = tally-silent order past (ended close) refl (λ k. refl) refl
