use Rattle.std.proofs.Common.{◌≡◌, false, subst, ap, sym, ◌∙◌}
use Rattle.number_set.specs.Numbers.{with_mark}
use Rattle.answer_desk.specs.Desk.{view as desk_view}
use Rattle.peer_events.specs.Stages.{is_gone}
use Rattle.peer_events.specs.Core.{Core, stage_at, with_stage}
use Rattle.peer_events.specs.Turning.{is_ready_stage}
use Rattle.session_runs.specs.Runs.{AreRuns, StageFits, has_unwritten}
use Rattle.session_runs.proofs.Changes.{AreRuns-replaced, stage-there}
use Rattle.session_runs.proofs.runs.Runs.replace.Goals as goal

pub invariant_of-self : goal.invariant_of-self
invariant_of-self c =
    let inside = c.self.inside in
    let n = c.args.number in
    let core : Core = record { desk = desk_view inside.desk; stages = inside.stages } in
    let here : is_gone (stage_at core n) ≡ false = ap (λ s. is_gone (stage_at s n)) c.self.view_is ∙ c.requires.here in
    let fits : StageFits core.desk n c.args.stage = subst (λ s. StageFits s.desk n c.args.stage) (sym c.self.view_is) c.requires.fits in
    let stage = stage_at (with_stage core n c.args.stage) n in
    let there : stage ≡ c.args.stage = stage-there core n c.args.stage here in
    let ready : c.set_mark.new.set ≡ with_mark (is_ready_stage core.desk stage) n inside.ready =
    c.set_mark.ensures ∙ ap (λ b. with_mark b n inside.ready) (c.is_ready_stage-is_ready.ensures ∙ ap (is_ready_stage core.desk) (sym there)) in
    let unwritten : c.set_mark-2.new.set ≡ with_mark (has_unwritten stage) n inside.unwritten =
    c.set_mark-2.ensures ∙ ap (λ b. with_mark b n inside.unwritten) (c.has_unwritten-is_unwritten.ensures ∙ ap has_unwritten (sym there)) in
    let marked : AreRuns (with_stage core n c.args.stage) c.set_mark.new.set c.set_mark-2.new.set =
    rw (ready, unwritten) (AreRuns-replaced core inside.ready inside.unwritten n c.args.stage here fits c.self.invariant) in
    subst (λ ss. AreRuns (record { desk = core.desk; stages = ss }) c.set_mark.new.set c.set_mark-2.new.set) (sym c.replace.ensures.after) marked
