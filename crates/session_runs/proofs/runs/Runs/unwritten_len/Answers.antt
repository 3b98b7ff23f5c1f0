use Rattle.std.proofs.Common.{length, ap, ◌∙◌}
use Rattle.answer_desk.specs.Desk.{view as desk_view}
use Rattle.peer_events.specs.Core.{Core}
use Rattle.session_runs.specs.Runs.{unwritten_numbers}
use Rattle.session_runs.proofs.Listed.{unwritten-numbers}
use Rattle.session_runs.proofs.runs.Runs.unwritten_len.Goals as goal

pub returns : goal.returns
returns c =
    let inside = c.self.inside in
    let core : Core = record { desk = desk_view inside.desk; stages = inside.stages } in
    c.len.ensures ∙ ap length (unwritten-numbers core inside.ready inside.unwritten c.self.invariant ∙ ap unwritten_numbers c.self.view_is)
