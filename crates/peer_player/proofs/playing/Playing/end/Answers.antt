-- The input ends and is taken, and once all is settled that was a whole run.
use Rattle.std.proofs.Common.{◌≢◌, Err, None, refl, sym, ap, subst, ◌∙◌}
use Rattle.std.proofs.lemmas.Result.{err_from_is_err_and}
use Rattle.peer_session.proofs.HandedOn.{handed-then, hands-error, until-then}
use Rattle.peer_player.specs.Player.{IsPlayIn}
use Rattle.stream_session.specs.Stream.{stream_of, with_end}
use Rattle.stream_session.specs.declared.next.InputEnd.TheVariants.{Finished}
use Rattle.peer_player.proofs.Results.{on-err}
use Rattle.peer_player.proofs.Steps.{cut-at-end, cut-before-end}
use Rattle.peer_player.proofs.playing.Playing.end.Goals as goal

pub returns-in_err-end-clause-err : goal.returns-in_err-end-clause-err
returns-in_err-end-clause-err g c = λ fed goes_on had.
    let at = g.S.Sink.bytes_taken c.args.self.now.sink in
    on-err c.from_residual.result
    (cut-before-end fed at goes_on
    (c.what_a_stream_wrote.ensures.short fed (λ n. None) (stream_of c.end.new.self) at (c.in_err-end.ensures.refused fed (λ n. None) at had)))

pub returns-in_err-take_contents-clause-err : goal.returns-in_err-take_contents-clause-err
returns-in_err-take_contents-clause-err g c = λ fed goes_on had.
    on-err c.from_residual-in_err-take_contents.result
    (cut-at-end (with_end fed Finished) (g.S.Sink.bytes_taken c.take_contents.new.self.sink) refl
    (c.in_err-take_contents.ensures.err (with_end fed Finished)
    (c.in_ok-end.ensures.ended fed (λ n. None) (g.S.Sink.bytes_taken c.args.self.now.sink) had goes_on)))

pub returns-in_err-settle-clause-err : goal.returns-in_err-settle-clause-err
returns-in_err-settle-clause-err g c = λ fed goes_on had.
    on-err c.from_residual-in_err-settle.result
    (cut-at-end (with_end fed Finished) (g.S.Sink.bytes_taken c.settle.new.self.sink) refl
    (c.in_err-settle.ensures.err (with_end fed Finished)
    (c.in_ok-take_contents.ensures.ok (with_end fed Finished)
    (c.in_ok-end.ensures.ended fed (λ n. None) (g.S.Sink.bytes_taken c.args.self.now.sink) had goes_on))))

pub returns-clause-ok : goal.returns-clause-ok
returns-clause-ok g c = λ fed goes_on had.
    let all = with_end fed Finished in
    let told = c.in_ok-end.ensures.ended fed (λ n. None) (g.S.Sink.bytes_taken c.args.self.now.sink) had goes_on in
    let settled = c.in_ok-settle.ensures.ok all (c.in_ok-take_contents.ensures.ok all told) in
    let s = stream_of c.settle.new.self.stream in
    let sink = g.S.Sink.bytes_taken c.settle.new.self.sink in
    let over : s.session.close ≢ None = λ none.
    c.in_ok-take_contents.ensures.taken.is_closed (λ last. c.in_ok-end.ensures.last (sym c.take_contents.ensures.last ∙ last)) (sym c.settle.ensures.input.close ∙ none) in
    let done = c.what_sessions_wrote.ensures.done fed.table s.session (λ n. None) settled.written.drained settled.none_ready (λ n. refl) over
    settled.written.plays.session.unbroken in
    subst (IsPlayIn fed.framing fed.table fed.limits fed.bytes fed.before sink) (sym c.report.ensures)
    (c.what_a_stream_wrote.ensures.whole all (λ n. None) s sink settled.written.plays done)

pub returns-in_err-take_contents-clause-flushed : goal.returns-in_err-take_contents-clause-flushed
returns-in_err-take_contents-clause-flushed g c =
    let told = err_from_is_err_and c.from_residual-in_err-take_contents.result c.from_residual-in_err-take_contents.ensures.1 in
    hands-error g.S.Sink.handed_on g.S.Sink.bytes_taken c.args.self.now.sink c.take_contents.new.self.sink c.from_residual-in_err-take_contents.result c.in_err-take_contents.field-0.0 (told.1 ∙ ap Err told.2)
    c.in_err-take_contents.ensures.flushed

pub returns-in_err-settle-clause-flushed : goal.returns-in_err-settle-clause-flushed
returns-in_err-settle-clause-flushed g c =
    let told = err_from_is_err_and c.from_residual-in_err-settle.result c.from_residual-in_err-settle.ensures.1 in
    hands-error g.S.Sink.handed_on g.S.Sink.bytes_taken c.args.self.now.sink c.settle.new.self.sink c.from_residual-in_err-settle.result c.in_err-settle.field-0.0 (told.1 ∙ ap Err told.2)
    (until-then g.S.Sink.handed_on g.S.Sink.bytes_taken c.args.self.now.sink c.take_contents.new.self.sink c.settle.new.self.sink c.in_err-settle.field-0.0
    c.in_ok-take_contents.ensures.flushed c.in_err-settle.ensures.flushed)

pub returns-clause-flushed : goal.returns-clause-flushed
returns-clause-flushed g c =
    handed-then g.S.Sink.handed_on g.S.Sink.bytes_taken c.args.self.now.sink c.take_contents.new.self.sink c.settle.new.self.sink c.in_ok-take_contents.ensures.flushed c.in_ok-settle.ensures.flushed
