use Rattle.std.proofs.Common.{◌≢◌, ◌<◌, ℕ, List, Bool, false, get_or, get_or-set_other, get_or-set_same, below_more, sym, ap, ◌∙◌, subst, arith}
use Rattle.std.specs.Mem.Slots.{slots_items, slots_len, slots_filled, slots_counts}
use lib.ListN.{get_elem?}
use Rattle.job_slots.proofs.Closes.{kept_more}
use Rattle.job_slots.proofs.closing.gather.Goals as goal

pub loop-slot-preserved : goal.loop-slot-preserved
loop-slot-preserved g c = let inv = c.loop-slot.invariant in let others = c.take.ensures.others in let i = c.loop-slot.slot in let filled = slots_filled c.loop-slot.closed.slots in record {
  words = others.3 ∙ inv.words;
  slots = (others.0 ∙ inv.slots.0, others.2 ∙ inv.slots.1);
  left = λ k above below. let apart : k ≢ i = omega arith in let near : k < slots_len c.loop-slot.closed.slots = subst (λ (n : ℕ). k < n) others.2 below in
      ap (λ (fs : List Bool). get_or fs k false) others.1 ∙ get_or-set_other filled i k false false apart ∙ inv.left k (omega arith) near;
  taken = below_more _ _
      (λ k below. let apart : k ≢ i = omega arith in ap (λ (fs : List Bool). get_or fs k false) others.1 ∙ get_or-set_other filled i k false false apart ∙ inv.taken k below)
      (ap (λ (fs : List Bool). get_or fs i false) others.1 ∙ get_or-set_same filled i false false (let near = c.loop-slot-test.true in let len = (slots_counts c.loop-slot.closed.slots).1 in omega arith));
  roomy = ((let a = c.keep.ensures.room.0 in let b = inv.roomy.0 in omega (arith, a, b)), (let a = c.keep.ensures.room.1 in let b = inv.roomy.1 in let e = others.2 in omega (arith, a, b, e)));
  jobs = kept_more (slots_items c.args.closed.words) (slots_items c.args.closed.slots) i c.word-word.result c.take.result c.loop-slot.room.items c.keep.new.jobs.items
      (ap (λ row. get_elem? (slots_items row) i) (sym inv.words) ∙ c.word-word.ensures) (ap (λ xs. get_elem? xs i) (sym inv.slots.0) ∙ c.take.ensures.value) inv.jobs c.keep.ensures.items;
}
