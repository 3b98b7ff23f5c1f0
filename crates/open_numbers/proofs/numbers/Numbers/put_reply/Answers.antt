use Rattle.std.proofs.Common.{refl, ap, ◌∙◌, Some}
use Rattle.open_numbers.specs.declared.open_call.OpenCall.{OpenCall}
use Rattle.open_numbers.specs.Kept.{slots_with, with_put}
use Rattle.open_numbers.proofs.Places.{place-changed, place-missing, place-unseen}
use Rattle.open_numbers.proofs.numbers.Numbers.put_reply.Goals as goal
use Rattle.open_numbers.proofs.numbers.Numbers.put_reply.Goals.{in-Some, in-None}

pub invariant_of-self : goal.invariant_of-self
invariant_of-self c =
    let inside = c.self.inside in
    let change : OpenCall → OpenCall = λ (n : OpenCall). record n { replies = slots_with n.replies c.args.turn c.args.reply } in
    elim c.match-value_mut.branch [
      | in-Some w ↦
          rw w.self-inside-is
          (place-unseen change (λ n. refl) (λ n. refl) inside.window c.args.number w.in-Some.kept.now _ inside.earlier inside.recent
          w.in-Some.ensures.value (w.put_reply.ensures.after ∙ ap (λ k. with_put c.args.turn c.args.reply (Some k)) w.deref_mut.ensures.value) c.self.invariant)
      | in-None w ↦ rw w.self-inside-is c.self.invariant
    ]

pub returns-clause-after : goal.returns-clause-after
returns-clause-after c =
    let inside = c.self.inside in
    elim c.match-value_mut.branch [
      | in-Some w ↦
          rw w.self-inside-is
          (place-changed (with_put c.args.turn c.args.reply) inside.window c.args.number w.in-Some.kept.now _ c.args.self.now
          w.in-Some.ensures.value (w.put_reply.ensures.after ∙ ap (λ k. with_put c.args.turn c.args.reply (Some k)) w.deref_mut.ensures.value) c.self.view_is)
      | in-None w ↦
          rw w.self-inside-is
          (place-missing (with_put c.args.turn c.args.reply) inside.window c.args.number c.args.self.now w.in-None.ensures.value refl c.self.view_is)
    ]
