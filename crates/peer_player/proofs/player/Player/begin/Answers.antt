-- Where it stops, it stops among what the bytes so far allow.
use Rattle.std.proofs.Common.{Err, ap, ◌∙◌}
use Rattle.std.proofs.lemmas.Result.{err_from_is_err_and}
use Rattle.peer_session.proofs.HandedOn.{hands-error}
use Rattle.peer_player.proofs.Results.{on-err}
use Rattle.peer_player.proofs.Steps.{stopped-yet}
use Rattle.peer_player.proofs.player.Player.begin.Goals as goal

pub returns-in_err-settle_if_eager-clause-stopped : goal.returns-in_err-settle_if_eager-clause-stopped
returns-in_err-settle_if_eager-clause-stopped g c = λ framing table limits bytes before had.
    on-err c.from_residual.result
    (stopped-yet framing table limits bytes before (g.S.Sink.bytes_taken c.settle_if_eager.new.self.sink) (c.in_err-settle_if_eager.ensures.err _ had))

pub returns-in_err-settle_if_eager-clause-flushed : goal.returns-in_err-settle_if_eager-clause-flushed
returns-in_err-settle_if_eager-clause-flushed g c =
    let told = err_from_is_err_and c.from_residual.result c.from_residual.ensures.1 in
    hands-error g.S.Sink.handed_on g.S.Sink.bytes_taken c.args.self.now.playing.sink c.settle_if_eager.new.self.sink c.from_residual.result c.in_err-settle_if_eager.field-0.0 (told.1 ∙ ap Err told.2)
    c.in_err-settle_if_eager.ensures.flushed
