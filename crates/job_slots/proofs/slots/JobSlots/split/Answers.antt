use Rattle.std.proofs.Common.{ℕ, ◌<◌, sym, subst}
use Rattle.job_slots.proofs.Steps.{splits}
use Rattle.job_slots.proofs.slots.JobSlots.split.Goals as goal

pub split_seat-seat-requires : goal.split_seat-seat-requires
split_seat-seat-requires g c = let clerk = c.args.clerk.now in let sized = c.args.self.now.sized in
    (c.requires, subst (λ (n : ℕ). 0 < n) (sym sized.0) sized.2, splits g.J.Turns.turned clerk.seat.id clerk.seat.me.0 clerk.rests.0)
