use Rattle.std.proofs.Common.{ℕ, ◌<◌, length, sym, ap, ◌∙◌, subst, arith}
use Rattle.job_slots.specs.Looks.{view_looks}
use Rattle.job_slots.proofs.Frees.{free_there, in_use_there}
use Rattle.job_slots.proofs.slots.JobSlots.next_in_use.Goals as goal

pub returns-in_default-clause-none : goal.returns-in_default-clause-none
returns-in_default-clause-none g c = λ k behind near.
    let clerk = c.args.clerk.now in
    let low : k < 128 = omega (arith, near, c.args.self.now.sized.3) in
    free_there (view_looks clerk.seat.me.0) k (sym (clerk.mapped k low) ∙ c.in_default.ensures k behind low)

pub returns-then-slot-self-clause-none : goal.returns-then-slot-self-clause-none
returns-then-slot-self-clause-none g c = λ k behind near.
    let clerk = c.args.clerk.now in
    let low : k < 128 = omega (arith, near, c.args.self.now.sized.3) in
    free_there (view_looks clerk.seat.me.0) k (sym (clerk.mapped k low) ∙ c.in-Some.ensures.3 k behind (omega (arith, near, c.if-slot-self.true)))

pub returns-clause-in_use : goal.returns-clause-in_use
returns-clause-in_use g c =
    let clerk = c.args.clerk.now in
    let slot = c.in-Some.slot in
    let looks = view_looks clerk.seat.me.0 in
    let near : slot < length looks = subst (λ (n : ℕ). slot < n) (sym c.args.self.now.sized.1 ∙ ap (λ z. z.slots) (sym c.requires) ∙ sym clerk.sized.0) c.if-slot-self.false in
    in_use_there looks slot clerk.rests.2 near (λ free. omega (arith, clerk.mapped slot c.in-Some.ensures.1, free, c.in-Some.ensures.2))

pub returns-clause-passed : goal.returns-clause-passed
returns-clause-passed g c = λ k behind before.
    let clerk = c.args.clerk.now in
    let low : k < 128 = omega (arith, before, c.in-Some.ensures.1) in
    free_there (view_looks clerk.seat.me.0) k (sym (clerk.mapped k low) ∙ c.in-Some.ensures.3 k behind before)
