-- What a turn has left is written; the last finds no handler ready.
use Rattle.std.proofs.Common.{Err, inl, ap, ◌∙◌}
use Rattle.std.proofs.lemmas.Result.{err_from_is_err_and}
use Rattle.peer_session.proofs.HandedOn.{handed-then, hands-error, until-then}
use Rattle.peer_player.proofs.Results.{on-err}
use Rattle.peer_player.proofs.Steps.{keeps-then}
use Rattle.peer_player.proofs.playing.Playing.settle.Goals as goal

pub loop-self-preserved : goal.loop-self-preserved
loop-self-preserved g c = (
  (λ fed had. c.in_ok-drain-2.ensures.ok fed (c.turn_next.ensures.turned fed (c.loop-self.invariant.0 fed had).plays)),
  keeps-then _ _ _ c.loop-self.invariant.1 (keeps-then _ _ _ c.turn_next.ensures.input c.in_ok-drain-2.ensures.input),
  c.in_ok-drain-2.ensures.same ∙ c.turn_next.ensures.same ∙ c.loop-self.invariant.2,
  c.in_ok-drain-2.ensures.cause ∙ ap (λ sink. g.S.Sink.failures sink) c.turn_next.ensures.sink ∙ c.loop-self.invariant.3,
  handed-then g.S.Sink.handed_on g.S.Sink.bytes_taken c.args.self.now.sink c.turn_next.new.self.sink c.drain-in-loop-self.new.self.sink
      (handed-then g.S.Sink.handed_on g.S.Sink.bytes_taken c.args.self.now.sink c.loop-self.self.sink c.turn_next.new.self.sink c.loop-self.invariant.4 (inl c.turn_next.ensures.sink))
      c.in_ok-drain-2.ensures.flushed,
)

pub returns-in_err-drain-2-clause-err : goal.returns-in_err-drain-2-clause-err
returns-in_err-drain-2-clause-err g c = λ fed had.
    on-err c.from_residual-in_err-drain-2.result
    (c.in_err-drain-2.ensures.err fed (c.turn_next.ensures.turned fed (c.loop-self.invariant.0 fed had).plays))

pub returns-in_err-drain-clause-flushed : goal.returns-in_err-drain-clause-flushed
returns-in_err-drain-clause-flushed g c =
    let told = err_from_is_err_and c.from_residual.result c.from_residual.ensures.1 in
    hands-error g.S.Sink.handed_on g.S.Sink.bytes_taken c.args.self.now.sink c.drain.new.self.sink c.from_residual.result c.in_err-drain.field-0.0 (told.1 ∙ ap Err told.2) c.in_err-drain.ensures.flushed

pub returns-in_err-drain-2-clause-flushed : goal.returns-in_err-drain-2-clause-flushed
returns-in_err-drain-2-clause-flushed g c =
    let told = err_from_is_err_and c.from_residual-in_err-drain-2.result c.from_residual-in_err-drain-2.ensures.1 in
    hands-error g.S.Sink.handed_on g.S.Sink.bytes_taken c.args.self.now.sink c.drain-in-loop-self.new.self.sink c.from_residual-in_err-drain-2.result c.in_err-drain-2.field-0.0 (told.1 ∙ ap Err told.2)
    (until-then g.S.Sink.handed_on g.S.Sink.bytes_taken c.args.self.now.sink c.turn_next.new.self.sink c.drain-in-loop-self.new.self.sink c.in_err-drain-2.field-0.0
    (handed-then g.S.Sink.handed_on g.S.Sink.bytes_taken c.args.self.now.sink c.loop-self.self.sink c.turn_next.new.self.sink c.loop-self.invariant.4 (inl c.turn_next.ensures.sink))
    c.in_err-drain-2.ensures.flushed)

pub returns-clause-flushed : goal.returns-clause-flushed
returns-clause-flushed g c =
    handed-then g.S.Sink.handed_on g.S.Sink.bytes_taken c.args.self.now.sink c.loop-self.self.sink c.turn_next.new.self.sink c.loop-self.invariant.4 (inl c.turn_next.ensures.sink)
