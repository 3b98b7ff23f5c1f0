use Rattle.std.proofs.Common.{ℕ, ◌<◌, sym, subst, rules}
use Rattle.job_slots.proofs.Steps.{joins}
use Rattle.job_slots.proofs.slots.JobSlots.join.Goals as goal

pub join_seat-requires : goal.join_seat-requires
join_seat-requires g c = let clerk = c.args.clerk.now in let sized = c.args.self.now.sized in let worker = c.into_seat-seat.result in (
  c.requires.clerk,
  search rules,
  c.into_seat-seat.ensures.2,
  subst (λ (n : ℕ). 0 < n) (sym sized.0) sized.2,
  joins g.J.Turns.turned clerk.seat.id worker.id clerk.seat.me.0 worker.me.0 clerk.rests.0 c.into_seat-seat.ensures.1,
)
