-- The input ends behind the first turns, or the player has stopped.
use Rattle.std.proofs.Common.{Err, refl, ap, ◌∙◌}
use Rattle.std.proofs.lemmas.Result.{err_from_is_err_and}
use Rattle.peer_session.proofs.HandedOn.{hands-error, hands-then}
use Rattle.peer_player.specs.Player.{fed_so_far}
use Rattle.peer_player.proofs.Results.{on-err}
use Rattle.peer_player.proofs.Steps.{stopped-here}
use Rattle.peer_player.proofs.player.Player.end.Goals as goal

pub returns-in_err-begin-clause-err : goal.returns-in_err-begin-clause-err
returns-in_err-begin-clause-err g c = λ framing table limits bytes before had.
    on-err c.from_residual.result
    (stopped-here framing table limits bytes before (g.S.Sink.bytes_taken c.begin.new.self.playing.sink) (c.in_err-begin.ensures.stopped framing table limits bytes before had))

pub returns-clause-ok : goal.returns-clause-ok
returns-clause-ok g c = λ framing table limits bytes before had.
    c.end.ensures.ok (fed_so_far framing table limits bytes before) refl (c.in_ok-begin.ensures.plays framing table limits bytes before had)

pub returns-clause-err : goal.returns-clause-err
returns-clause-err g c = λ framing table limits bytes before had.
    c.end.ensures.err (fed_so_far framing table limits bytes before) refl (c.in_ok-begin.ensures.plays framing table limits bytes before had)

pub returns-in_err-begin-clause-flushed : goal.returns-in_err-begin-clause-flushed
returns-in_err-begin-clause-flushed g c =
    let told = err_from_is_err_and c.from_residual.result c.from_residual.ensures.1 in
    hands-error g.S.Sink.handed_on g.S.Sink.bytes_taken c.args.self.now.playing.sink c.begin.new.self.playing.sink c.from_residual.result c.in_err-begin.field-0.0 (told.1 ∙ ap Err told.2)
    c.in_err-begin.ensures.flushed

pub returns-clause-flushed : goal.returns-clause-flushed
returns-clause-flushed g c =
    hands-then g.S.Sink.handed_on g.S.Sink.bytes_taken c.args.self.now.playing.sink c.begin.new.self.playing.sink c.end.new.self.sink c.end.result c.in_ok-begin.ensures.flushed c.end.ensures.flushed
