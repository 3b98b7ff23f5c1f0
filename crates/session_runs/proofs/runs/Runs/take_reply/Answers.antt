use Rattle.std.proofs.Common.{◌≡◌, false, ap, ◌∙◌}
use Rattle.answer_desk.specs.Desk.{view as desk_view}
use Rattle.answer_desk.specs.State.{without_reply}
use Rattle.peer_events.specs.Core.{Core, stage_at}
use Rattle.peer_events.specs.Turning.{is_ready_stage}
use Rattle.session_runs.specs.Runs.{is_idle}
use Rattle.session_runs.proofs.Boards.{take-other, take-open, take-length, fits-stage, same-stage, idle-ready}
use Rattle.session_runs.proofs.Changes.{AreRuns-same_ready}
use Rattle.session_runs.proofs.Marked.{each-number}
use Rattle.session_runs.proofs.runs.Runs.take_reply.Goals as goal

pub invariant_of-self : goal.invariant_of-self
invariant_of-self c =
    let inside = c.self.inside in
    let n = c.args.number in
    let turn = c.args.turn in
    let d = desk_view inside.desk in
    let core : Core = record { desk = d; stages = inside.stages } in
    let after = without_reply d n turn in
    let away : is_idle (stage_at core n) ≡ false = ap (λ s. is_idle (stage_at s n)) c.self.view_is ∙ c.requires in
    rw c.take_reply.ensures.after
    (AreRuns-same_ready core after inside.ready inside.unwritten (take-length d n turn)
    (λ k. fits-stage d after k (stage_at core k) (take-open d n turn k) (c.self.invariant.fits k))
    (each-number (λ k. is_ready_stage after (stage_at core k) ≡ is_ready_stage d (stage_at core k)) n (idle-ready d after (stage_at core n) away)
    (λ k apart. same-stage d after k (stage_at core k) (take-other d n turn k apart) (c.self.invariant.fits k)))
    c.self.invariant)
