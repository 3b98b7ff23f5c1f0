use Rattle.std.proofs.Common.{ap, sym, ◌∙◌}
use Rattle.peer_events.specs.declared.stage.Stage.TheVariants.{Out}
use Rattle.peer_events.specs.Finishing.{cancelled, told_at}
use Rattle.peer_session.proofs.Finished.{cancelled-over}
use Rattle.peer_session.proofs.finishing.tell.Goals as goal

pub returns-in-Some : goal.returns-in-Some
returns-in-Some c =
    let runs = c.args.runs.now in
    let h = c.in-Some.handler in
    c.cancel.ensures ∙ ap (λ s. cancelled s h c.in-Some.written) c.in-Some.ensures.0
    ∙ cancelled-over runs c.args.number (Out c.in-Some.written) h c.in-Some.written c.in-Some.ensures.2
    ∙ sym (ap (told_at runs) c.in-Some.ensures.1)
