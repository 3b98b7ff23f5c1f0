use Rattle.std.proofs.Common.{◌<◌, ◌≤◌, ℕ, length, refl, sym, ap, ◌∙◌, subst, arith}
use Rattle.std.specs.List.{list_all}
use Rattle.std.specs.Vec.{vec_capacity}
use Rattle.std.proofs.Math.ListN.{length-set}
use Rattle.job_slots.specs.declared.view.Look.TheVariants.{In}
use Rattle.job_slots.specs.Looks.{is_clerk, is_settled, view_looks}
use Rattle.job_slots.specs.Inner.FreeSlots.{free_bit}
use Rattle.job_slots.proofs.Lists.{nothing_held}
use Rattle.job_slots.proofs.Frees.{free_there, free_within, settled_set, mapped_set, first_is, none_is}
use Rattle.job_slots.proofs.slots.JobSlots.offer.Goals as goal

pub returns-in_default-clause-full : goal.returns-in_default-clause-full
returns-in_default-clause-full g c = let clerk = c.args.clerk.now in
    none_is (view_looks clerk.seat.me.0) (λ k near. let low : k < 128 = omega (arith, clerk.sized.0, clerk.sized.1) in sym (clerk.mapped k low) ∙ c.in_default.ensures k low)

pub fill-requires-clause-slot : goal.fill-requires-clause-slot
fill-requires-clause-slot g c = let clerk = c.args.clerk.now in let slot = c.in-Some.slot in
    let near = free_within (view_looks clerk.seat.me.0) slot (sym (clerk.mapped slot c.in-Some.ensures.0) ∙ c.in-Some.ensures.1) in
    let sized = c.args.self.now.sized in
    subst (λ (n : ℕ). slot < n) (clerk.sized.0 ∙ ap (λ z. z.slots) c.requires ∙ sized.1 ∙ sym sized.0) near

pub fill-requires-clause-clerk : goal.fill-requires-clause-clerk
fill-requires-clause-clerk g c = let clerk = c.args.clerk.now in (clerk.rests.0, nothing_held clerk.seat.me.1 clerk.rests.1)

pub fill-requires-clause-free : goal.fill-requires-clause-free
fill-requires-clause-free g c = let clerk = c.args.clerk.now in let slot = c.in-Some.slot in
    free_there (view_looks clerk.seat.me.0) slot (sym (clerk.mapped slot c.in-Some.ensures.0) ∙ c.in-Some.ensures.1)

pub invariant_of-clerk : goal.invariant_of-clerk
invariant_of-clerk g c = let clerk = c.args.clerk.now in let slot = c.in-Some.slot in let looks = view_looks clerk.seat.me.0 in let is = c.fill.ensures.filled in
    let near = free_within looks slot (sym (clerk.mapped slot c.in-Some.ensures.0) ∙ c.in-Some.ensures.1) in record {
      rests = (ap (λ m. is_clerk m.0) is, ap (λ m. length m.1) is, ap (λ m. list_all is_settled (view_looks m.0)) is ∙ settled_set looks slot (In c.args.job) clerk.rests.2 refl);
      sized = (ap (λ m. length (view_looks m.0)) is ∙ length-set looks slot (In c.args.job) ∙ clerk.sized.0 ∙ ap (λ z. z.slots) (sym c.fill.ensures.table), subst (λ z. z.slots ≤ 128) (sym c.fill.ensures.table) clerk.sized.1);
      mapped = λ k low. mapped_set looks slot (In c.args.job) clerk.free.bits c.remove.new.self.bits near clerk.mapped c.remove.ensures.0 c.remove.ensures.1 k low ∙ ap (λ m. free_bit (view_looks m.0) k) (sym is);
      roomy = (clerk.roomy.0, subst (λ z. z.slots ≤ vec_capacity clerk.room) (sym c.fill.ensures.table) clerk.roomy.1);
    }

pub returns-clause-least : goal.returns-clause-least
returns-clause-least g c = let clerk = c.args.clerk.now in let slot = c.in-Some.slot in
    first_is (view_looks clerk.seat.me.0) slot (sym (clerk.mapped slot c.in-Some.ensures.0) ∙ c.in-Some.ensures.1)
    (λ k below. let near = c.in-Some.ensures.0 in let low : k < 128 = omega arith in sym (clerk.mapped k low) ∙ c.in-Some.ensures.2 k below)

pub returns-clause-placed : goal.returns-clause-placed
returns-clause-placed g c = ap (λ m. view_looks m.0) c.fill.ensures.filled
