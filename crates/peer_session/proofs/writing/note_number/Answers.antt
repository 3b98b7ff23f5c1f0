-- The number is in its stage again, of which all is written.
use Rattle.std.proofs.Common.{◌≡◌, max, length, ap, sym, ◌∙◌}
use Rattle.peer_events.specs.declared.stage.Stage.TheVariants.{Idle, Out}
use Rattle.peer_events.specs.Core.{with_stage}
use Rattle.peer_events.specs.Turning.{written_stage}
use Rattle.session_runs.proofs.Unwritten.{noted}
use Rattle.peer_session.proofs.writing.note_number.Goals as goal

pub returns-in-Some : goal.returns-in-Some
returns-in-Some c =
    let runs = c.args.runs.now in
    let n = c.args.number in
    let h = c.in-Some.handler in
    let taken = c.in-Some.ensures in
    let written : c.max-written.result ≡ max c.in-Some.so_far (length h.messages) = c.max-written.ensures ∙ ap (λ ms. max c.in-Some.so_far (length ms)) c.messages.ensures.value in
    noted runs c.take_idle.new.runs c.replace.new.self n (Out c.in-Some.so_far) (Idle h c.max-written.result) taken.0 c.replace.ensures.after
    ∙ ap (with_stage runs n) (ap (Idle h) written ∙ sym (ap written_stage taken.1))
