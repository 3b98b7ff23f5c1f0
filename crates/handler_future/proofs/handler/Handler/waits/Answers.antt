use Rattle.std.proofs.Common.{◌≡◌, ◌≤◌, ℕ, List, All, ◌∙◌, sym, subst, ap}
use Rattle.method_templates.specs.Steps.{calls_of}
use Rattle.handler_future.specs.Front.{unheard, last_turns}
use Rattle.handler_future.specs.Inner.Handler.{program_of, seen_course}
use Rattle.handler_future.specs.State.{HandlerState}
use Rattle.handler_future.proofs.Polls.{stands-within, stands-waits}
use Rattle.handler_future.proofs.handler.Handler.waits.Goals as goal

pub returns-clause-within : goal.returns-clause-within
returns-clause-within c =
    let h = c.self.inside.run.value in
    let P : HandlerState → Type 0 = λ s. All (λ t. (1 ≤ t) × (t ≤ calls_of s.program.steps)) c.as_slice.result.now in
    let Q : List ℕ → Type 0 = λ ts. All (λ t. (1 ≤ t) × (t ≤ calls_of (program_of h).steps)) ts in
    subst P c.self.view_is (subst Q (sym (c.as_slice.ensures.value ∙ ap (λ r. r.course.waits.items) c.deref.ensures)) (stands-within (program_of h) h.phase (seen_course h) c.self.invariant.stands))

pub returns-clause-last : goal.returns-clause-last
returns-clause-last c =
    let h = c.self.inside.run.value in
    let P : HandlerState → Type 0 = λ s. c.as_slice.result.now ≡ unheard s.heard (last_turns s.messages) in
    subst P c.self.view_is ((c.as_slice.ensures.value ∙ ap (λ r. r.course.waits.items) c.deref.ensures) ∙ stands-waits (program_of h) h.phase (seen_course h) c.self.invariant.stands)
