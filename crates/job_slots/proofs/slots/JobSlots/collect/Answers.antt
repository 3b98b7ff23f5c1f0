use Rattle.std.proofs.Common.{◌<◌, ◌≤◌, ℕ, length, refl, sym, ap, ◌∙◌, subst, arith}
use Rattle.std.specs.List.{list_all}
use Rattle.std.specs.Vec.{vec_capacity}
use Rattle.std.proofs.Math.ListN.{length-set}
use Rattle.job_slots.specs.declared.view.Look.TheVariants.{Free}
use Rattle.job_slots.specs.Looks.{is_clerk, is_settled, view_looks}
use Rattle.job_slots.specs.Inner.FreeSlots.{free_bit}
use Rattle.job_slots.proofs.Frees.{in_use_there, settled_set, mapped_set}
use Rattle.job_slots.proofs.slots.JobSlots.collect.Goals as goal

pub take_home-requires-clause-in_use : goal.take_home-requires-clause-in_use
take_home-requires-clause-in_use g c = let clerk = c.args.clerk.now in let slot = c.args.slot in let looks = view_looks clerk.seat.me.0 in
    let near : slot < length looks = subst (λ (n : ℕ). slot < n) (sym c.args.self.now.sized.1 ∙ ap (λ z. z.slots) (sym c.requires) ∙ sym clerk.sized.0) c.if-slot-self.false in
    in_use_there looks slot clerk.rests.2 near (λ free. let low : slot < 128 = omega arith in let yes = c.has.ensures.1 (clerk.mapped slot low ∙ free) in let h = c.if-has.false in cc)

pub invariant_of-clerk-2 : goal.invariant_of-clerk-2
invariant_of-clerk-2 g c = let clerk = c.args.clerk.now in let slot = c.args.slot in let looks = view_looks clerk.seat.me.0 in let told = c.in_ok-job.ensures in
    let is = told.emptied in
    let near : slot < length looks = subst (λ (n : ℕ). slot < n) (sym c.args.self.now.sized.1 ∙ ap (λ z. z.slots) (sym c.requires) ∙ sym clerk.sized.0) c.if-slot-self.false in record {
      rests = (ap (λ m. is_clerk m.0) is, ap (λ m. length m.1) is, ap (λ m. list_all is_settled (view_looks m.0)) is ∙ settled_set looks slot Free clerk.rests.2 refl);
      sized = (ap (λ m. length (view_looks m.0)) is ∙ length-set looks slot Free ∙ clerk.sized.0 ∙ ap (λ z. z.slots) (sym c.take_home.ensures.table), subst (λ z. z.slots ≤ 128) (sym c.take_home.ensures.table) clerk.sized.1);
      mapped = λ k low. mapped_set looks slot Free clerk.free.bits c.insert.new.self.bits near clerk.mapped c.insert.ensures.0 c.insert.ensures.1 k low ∙ ap (λ m. free_bit (view_looks m.0) k) (sym is);
      roomy = (clerk.roomy.0, subst (λ z. z.slots ≤ vec_capacity clerk.room) (sym c.take_home.ensures.table) clerk.roomy.1);
    }
