-- A slot that isn't among the free ones is in use.
use Rattle.std.proofs.Common.{◌≡◌, ℕ, ◌<◌, Bool, true, false, not, true≢false, length, sym, ap, ◌∙◌, subst, arith}
use Rattle.std.proofs.lemmas.Bool.{le-ltb}
use Rattle.job_slots.specs.Looks.{view_looks}
use Rattle.job_slots.proofs.Frees.{in_use_there}
use Rattle.job_slots.proofs.slots.JobSlots.is_turned.Goals as goal
use Rattle.job_slots.proofs.slots.JobSlots.is_turned.Goals.{then-slot-self, else-slot-self}

not_free : (free other : Bool) → other ≡ not free → other ≡ true → free ≡ true → ⊥
not_free true other is_not holds frees = true≢false (sym holds ∙ is_not)
not_free false other is_not holds frees = true≢false (sym frees)

pub returns-then-not-has-clause-in_use : goal.returns-then-not-has-clause-in_use
returns-then-not-has-clause-in_use g c = λ done its.
    let clerk = c.args.clerk.now in
    let slot = c.args.slot in
    let looks = view_looks clerk.seat.me.0 in
    elim c.if-slot-self.branch [
      | then-slot-self w ↦
          let near : slot < length looks = subst (λ (n : ℕ). slot < n) (sym c.args.self.now.sized.1 ∙ ap (λ z. z.slots) (sym its) ∙ sym clerk.sized.0) w.if-slot-self.true in
          let low : slot < 128 = omega (arith, w.if-slot-self.true, c.args.self.now.sized.3) in
          in_use_there looks slot clerk.rests.2 near (λ free. not_free w.has.result c.if-slot-self.value w.value-is c.if-not-has.true (w.has.ensures.1 (clerk.mapped slot low ∙ free)))
      | else-slot-self w ↦ absurd (true≢false (sym c.if-not-has.true ∙ w.value-is ∙ le-ltb slot c.args.self.now.count w.if-slot-self.false))
    ]
