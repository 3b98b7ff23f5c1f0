use Rattle.std.proofs.Common.{sym, subst}
use Rattle.job_slots.specs.Closing.{EndsLawful}
use Rattle.job_slots.proofs.Closes.{ends}
use Rattle.job_slots.proofs.Closes as closing
use Rattle.job_slots.proofs.slots.JobSlots.close.Goals as goal

pub returns-clause-lawful : goal.returns-clause-lawful
returns-clause-lawful g c = let clerk = c.args.clerk in let v = clerk.seat.me.0 in let turned = g.J.Turns.turned in
    subst (λ jobs. EndsLawful turned v jobs) (sym c.gather.ensures) (ends turned clerk.seat.id v _ _ clerk.rests.0 clerk.rests.2 c.close_with.ensures.values.2)

pub returns-clause-back : goal.returns-clause-back
returns-clause-back g c = let clerk = c.args.clerk in closing.returns g.J.Turns.turned clerk.seat.me.0 c.gather.result.items clerk.rests.0 clerk.rests.2 (returns-clause-lawful g c)
