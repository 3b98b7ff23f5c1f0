use Rattle.std.proofs.Common.{◌∙◌, ap}
use Rattle.handler_future.proofs.Rehearsing.{turn_fewer, hears_following, polls_following}
use Rattle.handler_future.proofs.rehearsal.rehearse.Goals as goal

pub loop-outcome-smaller : goal.loop-outcome-smaller
loop-outcome-smaller c = turn_fewer c.loop-outcome.handler c.advance.new.self c.hear_one.new.handler _ _ c.in-None.ensures c.hear_one.ensures

pub loop-outcome-preserved : goal.loop-outcome-preserved
loop-outcome-preserved c =
    let poll = c.in-None.ensures in (
      ap (λ s. s.program) c.hear_one.ensures.state ∙ poll.same_program ∙ c.loop-outcome.invariant.0,
      λ R f. hears_following R _ _ _ _ poll.leaves c.hear_one.ensures (polls_following R c.loop-outcome.handler _ _ _ poll (c.loop-outcome.invariant.1 R f)),
    )
