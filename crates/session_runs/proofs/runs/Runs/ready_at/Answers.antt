use Rattle.std.proofs.Common.{◌≡◌, slice_get, ap, ◌∙◌}
use Rattle.answer_desk.specs.Desk.{view as desk_view}
use Rattle.peer_events.specs.Core.{Core}
use Rattle.peer_events.specs.Turning.{ready}
use Rattle.session_runs.proofs.Listed.{ready-numbers, ready-is}
use Rattle.session_runs.proofs.runs.Runs.ready_at.Goals as goal

pub returns-clause-number : goal.returns-clause-number
returns-clause-number c =
    let inside = c.self.inside in
    let core : Core = record { desk = desk_view inside.desk; stages = inside.stages } in
    c.at.ensures ∙ ap (λ ns. slice_get ns c.args.place) (ready-numbers core inside.ready inside.unwritten c.self.invariant ∙ ap ready c.self.view_is)

pub returns-clause-ready : goal.returns-clause-ready
returns-clause-ready c =
    let inside = c.self.inside in
    let core : Core = record { desk = desk_view inside.desk; stages = inside.stages } in
    let number : c.at.result ≡ slice_get (ready c.args.self.now) c.args.place =
    c.at.ensures ∙ ap (λ ns. slice_get ns c.args.place) (ready-numbers core inside.ready inside.unwritten c.self.invariant ∙ ap ready c.self.view_is) in
    ready-is c.args.self.now c.args.place c.at.result number
