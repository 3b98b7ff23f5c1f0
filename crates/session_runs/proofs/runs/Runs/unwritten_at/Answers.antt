use Rattle.std.proofs.Common.{◌≡◌, None, slice_get, subst, sym, ap, ◌∙◌}
use Rattle.answer_desk.specs.Desk.{view as desk_view}
use Rattle.peer_events.specs.Core.{Core}
use Rattle.session_runs.specs.Runs.{unwritten_numbers}
use Rattle.session_runs.proofs.Listed.{unwritten-numbers}
use Rattle.session_runs.proofs.Unwritten.{done-noted}
use Rattle.session_runs.proofs.runs.Runs.unwritten_at.Goals as goal

pub returns-clause-number : goal.returns-clause-number
returns-clause-number c =
    let inside = c.self.inside in
    let core : Core = record { desk = desk_view inside.desk; stages = inside.stages } in
    c.at.ensures ∙ ap (λ ns. slice_get ns c.args.place) (unwritten-numbers core inside.ready inside.unwritten c.self.invariant ∙ ap unwritten_numbers c.self.view_is)

pub returns-clause-none : goal.returns-clause-none
returns-clause-none c = λ first none.
    let inside = c.self.inside in
    let core : Core = record { desk = desk_view inside.desk; stages = inside.stages } in
    let nowhere : slice_get (unwritten_numbers core) c.args.place ≡ None =
    ap (λ ns. slice_get ns c.args.place) (sym (unwritten-numbers core inside.ready inside.unwritten c.self.invariant)) ∙ sym c.at.ensures ∙ none in
    rw (← c.self.view_is) (done-noted core (subst (λ place. slice_get (unwritten_numbers core) place ≡ None) first nowhere) c.self.invariant.fits)
