use Rattle.std.proofs.Common.{◌≡◌, ap, ◌∙◌}
use Rattle.number_set.specs.Numbers.{with_mark}
use Rattle.answer_desk.specs.Desk.{view as desk_view}
use Rattle.answer_desk.specs.State.{with_reply}
use Rattle.peer_events.specs.Stages.{stage_at as stage_in_list}
use Rattle.peer_events.specs.Core.{Core, stage_at}
use Rattle.peer_events.specs.Turning.{is_ready_stage}
use Rattle.session_runs.proofs.Boards.{put-other, put-open, put-length}
use Rattle.session_runs.proofs.Changes.{AreRuns-changed}
use Rattle.session_runs.proofs.runs.Runs.put_reply.Goals as goal

pub invariant_of-self : goal.invariant_of-self
invariant_of-self c =
    let inside = c.self.inside in
    let n = c.args.number in
    let d = desk_view inside.desk in
    let core : Core = record { desk = d; stages = inside.stages } in
    let after = with_reply d n c.args.turn c.args.reply in
    let ready : c.set_mark.new.set ≡ with_mark (is_ready_stage after (stage_at core n)) n inside.ready =
    c.set_mark.ensures ∙ ap (λ b. with_mark b n inside.ready) (c.is_ready_at-is_ready.ensures ∙ ap (λ desk. is_ready_stage desk (stage_in_list inside.stages n)) c.put_reply.ensures.after) in
    rw (ready, c.put_reply.ensures.after)
    (AreRuns-changed core after inside.ready inside.unwritten n (put-length d n c.args.turn c.args.reply) (put-other d n c.args.turn c.args.reply) (put-open d n c.args.turn c.args.reply) c.self.invariant)
