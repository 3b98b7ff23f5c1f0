use Rattle.std.proofs.Common.{List, All, sym, subst, ap, ◌∙◌}
use Rattle.method_templates.specs.Steps.{calls_of}
use Rattle.handler_future.specs.declared.message.Message.{Message}
use Rattle.handler_future.specs.Front.{HasTurnsUpTo}
use Rattle.handler_future.specs.Inner.Handler.{program_of, seen_course}
use Rattle.handler_future.specs.State.{HandlerState}
use Rattle.handler_future.proofs.Polls.{stands-turns}
use Rattle.handler_future.proofs.handler.Handler.messages.Goals as goal

pub returns-clause-turns : goal.returns-clause-turns
returns-clause-turns c =
    let h = c.self.inside.run.value in
    let P : HandlerState → Type 0 = λ s. All (HasTurnsUpTo (calls_of s.program.steps)) c.as_slice.result.now in
    let Q : List Message → Type 0 = λ ms. All (HasTurnsUpTo (calls_of (program_of h).steps)) ms in
    subst P c.self.view_is (subst Q (sym (c.as_slice.ensures.value ∙ ap (λ r. r.course.messages.items) c.deref.ensures)) (stands-turns (program_of h) h.phase (seen_course h) c.self.invariant.limits c.self.invariant.stands))
