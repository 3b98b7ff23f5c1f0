use Rattle.std.proofs.Common.{◌≤◌, length, ap, arith}
use Rattle.answer_desk.specs.Desk.{view as desk_view}
use Rattle.peer_events.specs.Core.{Core}
use Rattle.session_runs.specs.Runs.{unwritten_numbers}
use Rattle.session_runs.proofs.Listed.{unwritten-numbers}
use Rattle.session_runs.proofs.Unwritten.{nothing-due}
use Rattle.session_runs.proofs.runs.Runs.has_due.Goals as goal

pub returns-else-len-gt0 : goal.returns-else-len-gt0
returns-else-len-gt0 c = λ none.
    let inside = c.self.inside in
    let core : Core = record { desk = desk_view inside.desk; stages = inside.stages } in
    let few : length (unwritten_numbers core) ≤ 0 = omega (arith, c.if-len-gt0.false, c.len.ensures, ap length (unwritten-numbers core inside.ready inside.unwritten c.self.invariant)) in
    let due = c.has_due.ensures.none none in
    rw (← c.self.view_is) (nothing-due core few c.self.invariant.fits due.0 due.1)
