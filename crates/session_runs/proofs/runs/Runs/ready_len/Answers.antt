use Rattle.std.proofs.Common.{length, ap, ◌∙◌}
use Rattle.answer_desk.specs.Desk.{view as desk_view}
use Rattle.peer_events.specs.Core.{Core}
use Rattle.peer_events.specs.Turning.{ready}
use Rattle.session_runs.proofs.Listed.{ready-numbers}
use Rattle.session_runs.proofs.runs.Runs.ready_len.Goals as goal

pub returns : goal.returns
returns c =
    let inside = c.self.inside in
    let core : Core = record { desk = desk_view inside.desk; stages = inside.stages } in
    c.len.ensures ∙ ap length (ready-numbers core inside.ready inside.unwritten c.self.invariant ∙ ap ready c.self.view_is)
