use Rattle.std.proofs.Common.{◌≡◌, true, false, true≢false, Some, slice_get, subst, ap, sym, ◌∙◌}
use Rattle.handler_future.specs.State.{HandlerState}
use Rattle.peer_events.specs.declared.stage.Stage.TheVariants.{Idle, Out}
use Rattle.peer_events.specs.Core.{Core, stage_at, with_stage, with_desk}
use Rattle.peer_events.specs.Hearing.{hear_waits}
use Rattle.peer_events.specs.Turning.{Leaves, ready, is_ready_stage}
use Rattle.peer_session.specs.Inner.Turns.{LeavesFrom}
use Rattle.peer_session.proofs.Finished.{hears-number}
use Rattle.session_runs.specs.Runs.{is_idle}
use Rattle.session_runs.proofs.Boards.{ready-idle}
use Rattle.peer_session.proofs.turning.leave.Goals as goal

pub returns-in_err-handler : goal.returns-in_err-handler
returns-in_err-handler c =
    let runs = c.args.runs.now in
    let n = c.in_ok-number.number in
    let is : is_ready_stage runs.desk (stage_at runs n) ≡ true = c.in_ok-number.ensures.ready in
    let away : is_idle (stage_at runs n) ≡ false = c.in_err-handler.ensures.0 in
    absurd (true≢false (sym (ready-idle runs.desk (stage_at runs n) is) ∙ away))

pub returns-clause-leaves : goal.returns-clause-leaves
returns-clause-leaves c =
    let runs = c.args.runs.now in
    let n = c.in_ok-number.number in
    let h = c.in_ok-handler.handler in
    let out = c.in_ok-handler.ensures in
    let got : slice_get (ready runs) c.args.place ≡ Some n = sym c.ready_at.ensures.number ∙ c.in_ok-number.was in
    let stage_is : stage_at runs n ≡ Idle h out.0 = out.1 in
    let ready_there : is_ready_stage runs.desk (stage_at runs n) ≡ true = c.in_ok-number.ensures.ready in
    let sent : c.send_out.new.runs ≡ with_stage runs n (Out out.0) = out.2 in
    let leaves : Leaves runs n c.hear_waits.new.handler c.hear_waits.new.runs = record {
      handler = h;
      so_far = out.0;
      stage = stage_is;
      is_ready = ap (is_ready_stage runs.desk) (sym stage_is) ∙ ready_there;
      job_is = c.hear_waits.ensures.handler ∙ ap (λ (s : Core). (hear_waits s.desk h).handler) sent;
      after_is = c.hear_waits.ensures.runs ∙ ap (λ (s : Core). with_desk s (hear_waits s.desk h).desk) sent;
    } in
    subst (λ o. LeavesFrom runs o (Some c.hear_waits.new.handler) c.hear_waits.new.runs) (sym got) leaves

pub returns-clause-number : goal.returns-clause-number
returns-clause-number c =
    let h = c.in_ok-handler.handler in
    let got : slice_get (ready c.args.runs.now) c.args.place ≡ Some c.in_ok-number.number = sym c.ready_at.ensures.number ∙ c.in_ok-number.was in
    let heard : c.hear_waits.new.handler.number ≡ h.number =
    ap (λ (job : HandlerState). job.number) c.hear_waits.ensures.handler ∙ hears-number c.send_out.new.runs.desk h in
    got ∙ ap Some (sym (heard ∙ c.in_ok-handler.ensures.3))
