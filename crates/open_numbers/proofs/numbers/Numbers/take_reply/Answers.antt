use Rattle.std.proofs.Common.{refl, ap, ◌∙◌, Some}
use Rattle.open_numbers.specs.declared.open_call.OpenCall.{OpenCall}
use Rattle.open_numbers.specs.Kept.{slots_without, with_taken}
use Rattle.open_numbers.proofs.Places.{place-changed, place-missing, place-unseen}
use Rattle.open_numbers.proofs.numbers.Numbers.take_reply.Goals as goal
use Rattle.open_numbers.proofs.numbers.Numbers.take_reply.Goals.{in-Some, in-None}

pub invariant_of-self : goal.invariant_of-self
invariant_of-self c =
    let inside = c.self.inside in
    let change : OpenCall → OpenCall = λ (n : OpenCall). record n { replies = slots_without c.args.is_closed n.replies c.args.turn } in
    elim c.match-value_mut.branch [
      | in-Some w ↦
          rw w.self-inside-is
          (place-unseen change (λ n. refl) (λ n. refl) inside.window c.args.number w.in-Some.kept.now _ inside.earlier inside.recent
          w.in-Some.ensures.value (w.take_reply.ensures.after ∙ ap (λ k. with_taken c.args.turn c.args.is_closed (Some k)) w.deref_mut.ensures.value) c.self.invariant)
      | in-None w ↦ rw w.self-inside-is c.self.invariant
    ]

pub returns-clause-after : goal.returns-clause-after
returns-clause-after c =
    let inside = c.self.inside in
    elim c.match-value_mut.branch [
      | in-Some w ↦
          rw w.self-inside-is
          (place-changed (with_taken c.args.turn c.args.is_closed) inside.window c.args.number w.in-Some.kept.now _ c.args.self.now
          w.in-Some.ensures.value (w.take_reply.ensures.after ∙ ap (λ k. with_taken c.args.turn c.args.is_closed (Some k)) w.deref_mut.ensures.value) c.self.view_is)
      | in-None w ↦
          rw w.self-inside-is
          (place-missing (with_taken c.args.turn c.args.is_closed) inside.window c.args.number c.args.self.now w.in-None.ensures.value refl c.self.view_is)
    ]
