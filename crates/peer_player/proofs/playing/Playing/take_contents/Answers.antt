-- A content that is refused still waits, so what was fed has stopped short.
use Rattle.std.proofs.Common.{Err, None, ap, ◌∙◌}
use Rattle.std.proofs.lemmas.Result.{err_from_is_err_and}
use Rattle.peer_session.proofs.HandedOn.{handed-then, hands-error, until-then}
use Rattle.stream_session.specs.Stream.{stream_of}
use Rattle.peer_player.proofs.Results.{on-err}
use Rattle.peer_player.proofs.playing.Playing.take_contents.Goals as goal

pub returns-in_err-take_next-clause-err : goal.returns-in_err-take_next-clause-err
returns-in_err-take_next-clause-err g c = λ fed had.
    on-err c.from_residual.result
    (c.what_a_stream_wrote.ensures.short fed (λ n. None) (stream_of c.loop-self.self.stream) (g.S.Sink.bytes_taken c.loop-self.self.sink) (c.loop-self.invariant.0 fed had))

pub returns-in_err-settle_if_eager-clause-err : goal.returns-in_err-settle_if_eager-clause-err
returns-in_err-settle_if_eager-clause-err g c = λ fed had.
    on-err c.from_residual-in_err-settle_if_eager.result
    (c.in_err-settle_if_eager.ensures.err fed
    (c.in_ok-take_next.ensures.stands fed (λ n. None) (g.S.Sink.bytes_taken c.loop-self.self.sink) (c.loop-self.invariant.0 fed had)))

pub loop-self-preserved : goal.loop-self-preserved
loop-self-preserved g c = (
  (λ fed had.
      c.in_ok-settle_if_eager.ensures.ok fed
      (c.in_ok-take_next.ensures.stands fed (λ n. None) (g.S.Sink.bytes_taken c.loop-self.self.sink) (c.loop-self.invariant.0 fed had))),
  c.settle_if_eager.ensures.input.last ∙ c.take_next.ensures.last ∙ c.loop-self.invariant.1,
  c.in_ok-settle_if_eager.ensures.same ∙ c.take_next.ensures.broken ∙ c.loop-self.invariant.2,
  c.in_ok-settle_if_eager.ensures.cause ∙ c.loop-self.invariant.3,
  handed-then g.S.Sink.handed_on g.S.Sink.bytes_taken c.args.self.now.sink c.loop-self.self.sink c.settle_if_eager.new.self.sink c.loop-self.invariant.4 c.in_ok-settle_if_eager.ensures.flushed,
)

pub returns-in_err-settle_if_eager-clause-flushed : goal.returns-in_err-settle_if_eager-clause-flushed
returns-in_err-settle_if_eager-clause-flushed g c =
    let told = err_from_is_err_and c.from_residual-in_err-settle_if_eager.result c.from_residual-in_err-settle_if_eager.ensures.1 in
    hands-error g.S.Sink.handed_on g.S.Sink.bytes_taken c.args.self.now.sink c.settle_if_eager.new.self.sink c.from_residual-in_err-settle_if_eager.result c.in_err-settle_if_eager.field-0.0 (told.1 ∙ ap Err told.2)
    (until-then g.S.Sink.handed_on g.S.Sink.bytes_taken c.args.self.now.sink c.loop-self.self.sink c.settle_if_eager.new.self.sink c.in_err-settle_if_eager.field-0.0
    c.loop-self.invariant.4 c.in_err-settle_if_eager.ensures.flushed)
