use Rattle.std.proofs.Common.{◌≡◌, ◌≤◌, ◌<◌, ℕ, ap, sym, subst, ◌∙◌, arith}
use Rattle.answer_desk.specs.Desk.{view as desk_view}
use Rattle.answer_desk.specs.State.{with_board_closed}
use Rattle.peer_events.specs.Stages.{stage_at as stage_in_list}
use Rattle.peer_events.specs.Core.{Core, stage_at, with_desk}
use Rattle.peer_events.specs.Turning.{is_ready_stage}
use Rattle.number_set.specs.Numbers.{is_in}
use Rattle.session_runs.specs.Runs.{AreRuns}
use Rattle.session_runs.proofs.Changes.{AreRuns-closed, ready-here}
use Rattle.session_runs.proofs.runs.Runs.close_board.Goals as goal

pub mark_ready-requires-clause-order : goal.mark_ready-requires-clause-order
mark_ready-requires-clause-order c = omega (arith, c.first-first.ensures.within, c.len-end.ensures.len)

pub mark_ready-requires-clause-room : goal.mark_ready-requires-clause-room
mark_ready-requires-clause-room c = λ n reached below is. (c.self.invariant.room n (ready-here (desk_view c.close_board.new.self) (stage_in_list c.self.inside.stages n) is)).0

pub invariant_of-self : goal.invariant_of-self
invariant_of-self c =
    let inside = c.self.inside in
    let core : Core = record { desk = desk_view inside.desk; stages = inside.stages } in
    let marked = c.mark_ready.ensures in
    let within : (k : ℕ) → c.first-first.result ≤ k → k < c.len-end.result → is_in c.mark_ready.new.set k ≡ is_ready_stage (with_board_closed core.desk) (stage_at core k) =
    λ k reached below. marked.within k reached below ∙ ap (λ d. is_ready_stage d (stage_at core k)) c.close_board.ensures in
    let closed : AreRuns (with_desk core (with_board_closed core.desk)) c.mark_ready.new.set inside.unwritten =
    AreRuns-closed core inside.ready c.mark_ready.new.set inside.unwritten c.first-first.result c.len-end.result c.len-end.ensures.len c.first-first.ensures.gone
    within marked.below marked.beyond marked.room c.self.invariant in
    subst (λ d. AreRuns (record { desk = d; stages = core.stages }) c.mark_ready.new.set inside.unwritten) (sym c.close_board.ensures) closed
