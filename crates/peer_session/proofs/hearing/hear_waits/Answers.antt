use Rattle.std.proofs.Common.{◌≡◌, Some, ap, sym, ◌∙◌}
use Rattle.answer_desk.specs.State.{without_reply, reply_of}
use Rattle.handler_future.specs.State.{with_heard}
use Rattle.peer_events.specs.Core.{stage_at, with_desk}
use Rattle.peer_events.specs.Stages.{stage_at as stage_in_list}
use Rattle.session_runs.specs.Runs.{is_idle}
use Rattle.peer_session.proofs.Hearings.{on-ok, any-in, heard-step, fewer-waits}
use Rattle.peer_session.proofs.hearing.hear_waits.Goals as goal

pub loop-turn-smaller-in-Some-take_reply : goal.loop-turn-smaller-in-Some-take_reply
loop-turn-smaller-in-Some-take_reply c =
    let h = c.loop-turn.handler in
    let turn = c.in-Some.turn in
    let alone = c.in-Some.ensures.next in
    let heard = on-ok c.hear.result (c.hear.ensures.awaited ∙ any-in h.waits c.loop-turn.passed turn _ alone.rest) c.hear.ensures.ok in
    fewer-waits h c.hear.new.self c.loop-turn.passed turn c.in-Some-take_reply.reply alone heard

pub loop-turn-preserved-in-Some-take_reply : goal.loop-turn-preserved-in-Some-take_reply
loop-turn-preserved-in-Some-take_reply c =
    let h = c.loop-turn.handler in
    let runs = c.loop-turn.runs in
    let inv = c.loop-turn.invariant in
    let turn = c.in-Some.turn in
    let n = c.number-number.result in
    let reply = c.in-Some-take_reply.reply in
    let alone = c.in-Some.ensures.next in
    let heard : c.hear.new.self ≡ with_heard h turn reply =
    on-ok c.hear.result (c.hear.ensures.awaited ∙ any-in h.waits c.loop-turn.passed turn _ alone.rest) c.hear.ensures.ok in
    let number : h.number ≡ n = inv.number ∙ sym c.number-number.ensures in
    let same_number : c.hear.new.self.number ≡ h.number = ap (λ k. k.number) heard in
    let there : Some reply ≡ reply_of runs.desk n turn = sym c.in-Some-take_reply.is ∙ c.take_reply.ensures.reply in
    let desk : c.take_reply.new.self.desk ≡ without_reply runs.desk n turn = ap (λ s. s.desk) c.take_reply.ensures.after in
    let stages : c.take_reply.new.self.stages ≡ runs.stages = ap (λ s. s.stages) c.take_reply.ensures.after in
    record {
      heard = heard-step runs.desk c.take_reply.new.self.desk h c.hear.new.self n c.loop-turn.passed turn reply alone number desk there heard ∙ inv.heard;
      runs = c.take_reply.ensures.after ∙ ap (λ s. with_desk s (without_reply runs.desk n turn)) inv.runs ∙ ap (with_desk c.args.runs.now) (sym desk);
      number = same_number ∙ inv.number;
      away = ap (λ ss. is_idle (stage_in_list ss c.hear.new.self.number)) stages ∙ ap (λ k. is_idle (stage_at runs k)) same_number ∙ inv.away;
    }
