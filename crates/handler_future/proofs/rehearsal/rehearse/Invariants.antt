use Rattle.std.proofs.Common.{◌≡◌}
use Rattle.method_templates.specs.Steps.{calls_of}
use Rattle.handler_future.specs.Evaluation.{Replies}
use Rattle.handler_future.specs.Inner.Rehearsing.{Follows}
use Rattle.handler_future.proofs.Rehearsing.{unheard_upto}
use Rattle.handler_future.proofs.rehearsal.rehearse.Given as goal

abbrev pub invariant-loop-outcome : goal.invariant-loop-outcome
invariant-loop-outcome l =
    (l.handler.program ≡ l.initial.handler.program) × ((R : Replies) → Follows R l.initial.handler l.initial.listed → Follows R l.handler l.listed)

abbrev pub decreases-loop-outcome : goal.decreases-loop-outcome
decreases-loop-outcome l = unheard_upto l.handler.heard (calls_of l.handler.program.steps)
