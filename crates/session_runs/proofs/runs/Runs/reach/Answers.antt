use Rattle.answer_desk.specs.Desk.{view as desk_view}
use Rattle.answer_desk.specs.State.{with_reached}
use Rattle.peer_events.specs.Core.{Core}
use Rattle.session_runs.proofs.Boards.{reached-board, reached-length}
use Rattle.session_runs.proofs.Changes.{AreRuns-same_boards}
use Rattle.session_runs.proofs.runs.Runs.reach.Goals as goal

pub invariant_of-self : goal.invariant_of-self
invariant_of-self c =
    let inside = c.self.inside in
    let d = desk_view inside.desk in
    let core : Core = record { desk = d; stages = inside.stages } in
    let reached = c.reach.result in
    rw c.reach.ensures.after
    (AreRuns-same_boards core (with_reached d reached) inside.ready inside.unwritten (reached-length d reached) (reached-board d reached) c.self.invariant)
