use Rattle.std.proofs.Common.{◌≡◌, false, ap, ◌∙◌}
use Rattle.std.proofs.lemmas.List.{length-set}
use Rattle.std.specs.Prelude.{None}
use Rattle.answer_desk.specs.Desk.{view as desk_view}
use Rattle.answer_desk.specs.State.{with_end}
use Rattle.peer_events.specs.Core.{Core, stage_at}
use Rattle.peer_events.specs.Turning.{is_ready_stage}
use Rattle.session_runs.specs.Runs.{StageFits, is_live}
use Rattle.session_runs.proofs.Boards.{end-other, same-open, fits-stage, fits-over, live-idle, same-stage, idle-ready}
use Rattle.session_runs.proofs.Changes.{AreRuns-same_ready}
use Rattle.session_runs.proofs.Marked.{each-number}
use Rattle.session_runs.proofs.runs.Runs.finish.Goals as goal

pub invariant_of-self : goal.invariant_of-self
invariant_of-self c =
    let inside = c.self.inside in
    let n = c.args.number in
    let d = desk_view inside.desk in
    let core : Core = record { desk = d; stages = inside.stages } in
    let after = with_end d n c.args.answer in
    let over : is_live (stage_at core n) ≡ false = ap (λ s. is_live (stage_at s n)) c.self.view_is ∙ c.requires.over in
    let inv = c.self.invariant in
    rw c.finish.ensures
    (AreRuns-same_ready core after inside.ready inside.unwritten (length-set d.numbers n None)
    (each-number (λ k. StageFits after k (stage_at core k)) n (fits-over d after n (stage_at core n) over (inv.fits n))
    (λ k apart. fits-stage d after k (stage_at core k) (same-open d after k (end-other d n c.args.answer k apart)) (inv.fits k)))
    (each-number (λ k. is_ready_stage after (stage_at core k) ≡ is_ready_stage d (stage_at core k)) n (idle-ready d after (stage_at core n) (live-idle (stage_at core n) over))
    (λ k apart. same-stage d after k (stage_at core k) (end-other d n c.args.answer k apart) (inv.fits k)))
    inv)
