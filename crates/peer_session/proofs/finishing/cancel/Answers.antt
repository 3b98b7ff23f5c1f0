use Rattle.std.proofs.Common.{◌≡◌, ap, ◌∙◌}
use Rattle.answer_desk.specs.State.{is_open}
use Rattle.peer_events.specs.Stages.{is_gone}
use Rattle.peer_events.specs.Core.{stage_at}
use Rattle.peer_session.proofs.Finished.{hears-number, hears-open}
use Rattle.peer_session.proofs.finishing.cancel.Goals as goal

pub finish-requires-clause-here : goal.finish-requires-clause-here
finish-requires-clause-here c =
    let runs = c.args.runs.now in
    let heard = c.hear_waits.new.handler in
    let number : heard.number ≡ c.args.handler.number = ap (λ k. k.number) c.hear_waits.ensures.handler ∙ hears-number runs.desk c.args.handler in
    ap (λ s. is_gone (stage_at s heard.number)) c.hear_waits.ensures.runs ∙ ap (λ n. is_gone (stage_at runs n)) number ∙ c.requires.here

pub finish-requires-clause-open : goal.finish-requires-clause-open
finish-requires-clause-open c =
    let runs = c.args.runs.now in
    let heard = c.hear_waits.new.handler in
    let number : heard.number ≡ c.args.handler.number = ap (λ k. k.number) c.hear_waits.ensures.handler ∙ hears-number runs.desk c.args.handler in
    ap (λ s. is_open s.desk heard.number) c.hear_waits.ensures.runs ∙ hears-open runs.desk c.args.handler heard.number ∙ ap (is_open runs.desk) number ∙ c.requires.open
