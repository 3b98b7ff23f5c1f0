use Rattle.std.proofs.Common.{ℕ, ◌≤◌, length, replicate, sym, ap, ◌∙◌, subst, arith}
use Rattle.std.specs.Prelude.{None}
use Rattle.std.specs.List.{list_all}
use Rattle.std.specs.Vec.{vec_capacity}
use lib.ListN.{length-replicate}
use Rattle.atomic_table.specs.Table.{opening}
use Rattle.job_slots.specs.declared.view.Look.TheVariants.{Free}
use Rattle.job_slots.specs.declared.view.View.TheVariants.{Clerk}
use Rattle.job_slots.specs.Looks.{is_clerk, is_settled, view_looks}
use Rattle.job_slots.specs.Inner.FreeSlots.{free_bit}
use Rattle.job_slots.specs.Lawful.{LawfulTable}
use Rattle.std.proofs.lemmas.List.{take-replicate}
use Rattle.job_slots.proofs.Frees.{settled_all, bit_all}
use Rattle.job_slots.proofs.Steps.{starts}
use Rattle.job_slots.proofs.slots.JobSlots.make.Goals as goal

pub vacant-requires : goal.vacant-requires
vacant-requires g c = let n = c.args.slots in
    subst (λ (ws : _). LawfulTable g.J.Turns.turned (opening ws (replicate n None) (Clerk (replicate n Free) 0))) (sym (take-replicate n 128 0 (omega arith))) (starts g.J.Turns.turned n)

pub invariant_of-clerk : goal.invariant_of-clerk
invariant_of-clerk g c = let n = c.args.slots in let is = c.in-Ok-vacant.ensures.4 in let J = g.row.J.Denot in let slots = ap (λ z. z.slots) c.in-Ok-vacant.ensures.2 ∙ c.in-Ok-vacant.ensures.1 in
    record {
      rests = (ap (λ m. is_clerk m.0) is, ap (λ m. length m.1) is, ap (λ m. list_all is_settled (view_looks m.0)) is ∙ settled_all J n);
      sized = (ap (λ m. length (view_looks m.0)) is ∙ length-replicate n Free ∙ sym slots, subst (λ (k : ℕ). k ≤ 128) (sym slots) (omega arith));
      mapped = λ k low. c.all.ensures k ∙ sym (bit_all J n k) ∙ ap (λ m. free_bit (view_looks m.0) k) (sym is);
      roomy = (c.in-Ok.ensures.len, subst (λ (k : ℕ). k ≤ vec_capacity c.in-Ok.room) (sym slots) c.in-Ok.ensures.capacity);
    }
