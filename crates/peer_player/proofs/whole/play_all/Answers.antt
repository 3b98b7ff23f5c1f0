-- One more piece is played, and after the last the input ends.
use Rattle.std.proofs.Common.{◌≡◌, Err, take, sym, ap, ◌∙◌, subst, arith}
use Rattle.std.proofs.lemmas.List.{take_all}
use Rattle.std.proofs.lemmas.Result.{err_from_is_err_and}
use Rattle.lsp_frames.specs.Devices.{Finished}
use Rattle.stream_framing.specs.declared.framing.Framing.TheVariants.{Frames}
use Rattle.stream_session.specs.Stream.{stream_of}
use Rattle.peer_session.proofs.HandedOn.{handed-then, hands-error, hands-then, until-then}
use Rattle.peer_player.specs.Player.{PlaysAfter}
use Rattle.peer_player.proofs.Counting.{counts-then, counts-error}
use Rattle.peer_player.proofs.Pieces.{bytes_in, next-bytes, stopped-piece}
use Rattle.peer_player.proofs.Results.{IfOk-map, OnErr-map, on-err}
use Rattle.peer_player.proofs.whole.play_all.Goals as goal

pub loop-piece-preserved : goal.loop-piece-preserved
loop-piece-preserved g c = (
  (λ table limits before had.
      subst (λ bytes. PlaysAfter Frames table limits bytes before (stream_of c.feed.new.self.playing.stream) (g.S.Sink.bytes_taken c.feed.new.self.playing.sink))
      (sym (next-bytes c.args.pieces.now c.loop-piece.piece-index c.piece-item.result c.as_slice.result.now c.loop-piece-test.true c.piece-item.is c.as_slice.ensures.value))
      (c.in_ok-feed.ensures.plays Frames table limits (bytes_in (take c.loop-piece.piece-index c.args.pieces.now)) before (c.loop-piece.invariant.0 table limits before had))),
  c.in_ok-feed.ensures.same ∙ c.loop-piece.invariant.1,
  c.in_ok-feed.ensures.cause ∙ c.loop-piece.invariant.2,
  handed-then g.S.Sink.handed_on g.S.Sink.bytes_taken c.args.player.now.playing.sink c.loop-piece.player.playing.sink c.feed.new.self.playing.sink c.loop-piece.invariant.3 c.in_ok-feed.ensures.flushed,
)

pub returns-in_err-feed-clause-err : goal.returns-in_err-feed-clause-err
returns-in_err-feed-clause-err g c = λ table limits before had.
    on-err c.from_residual.result
    (c.runs_in_frames_are_runs.ensures.cut_short table limits (bytes_in c.args.pieces.now) Finished before (g.S.Sink.bytes_taken c.feed.new.self.playing.sink)
    (stopped-piece c.args.pieces.now c.loop-piece.piece-index c.piece-item.result c.as_slice.result.now c.loop-piece-test.true c.piece-item.is c.as_slice.ensures.value
    Frames table limits before (g.S.Sink.bytes_taken c.feed.new.self.playing.sink)
    (c.in_err-feed.ensures.stopped Frames table limits (bytes_in (take c.loop-piece.piece-index c.args.pieces.now)) before (c.loop-piece.invariant.0 table limits before had))))

pub returns-clause-ok : goal.returns-clause-ok
returns-clause-ok g c = λ table limits before had.
    let all : take c.loop-piece.piece-index c.args.pieces.now ≡ c.args.pieces.now = take_all c.loop-piece.piece-index c.args.pieces.now (omega arith) in
    IfOk-map c.end.result (λ report run. c.runs_in_frames_are_runs.ensures.run table limits (bytes_in c.args.pieces.now) Finished before (g.S.Sink.bytes_taken c.end.new.self.playing.sink) report run)
    (c.end.ensures.ok Frames table limits (bytes_in c.args.pieces.now) before
    (subst (λ pieces. PlaysAfter Frames table limits (bytes_in pieces) before (stream_of c.loop-piece.player.playing.stream)
    (g.S.Sink.bytes_taken c.loop-piece.player.playing.sink)) all (c.loop-piece.invariant.0 table limits before had)))

pub returns-clause-err : goal.returns-clause-err
returns-clause-err g c = λ table limits before had.
    let all : take c.loop-piece.piece-index c.args.pieces.now ≡ c.args.pieces.now = take_all c.loop-piece.piece-index c.args.pieces.now (omega arith) in
    OnErr-map c.end.result (c.runs_in_frames_are_runs.ensures.cut_short table limits (bytes_in c.args.pieces.now) Finished before (g.S.Sink.bytes_taken c.end.new.self.playing.sink))
    (c.end.ensures.err Frames table limits (bytes_in c.args.pieces.now) before
    (subst (λ pieces. PlaysAfter Frames table limits (bytes_in pieces) before (stream_of c.loop-piece.player.playing.stream)
    (g.S.Sink.bytes_taken c.loop-piece.player.playing.sink)) all (c.loop-piece.invariant.0 table limits before had)))

pub returns-in_err-feed-clause-cause : goal.returns-in_err-feed-clause-cause
returns-in_err-feed-clause-cause g c =
    let told = err_from_is_err_and c.from_residual.result c.from_residual.ensures.1 in
    counts-error (stream_of c.args.player.now.playing.stream).session (g.S.Sink.failures c.args.player.now.playing.sink) (g.S.Sink.failures c.feed.new.self.playing.sink)
    c.from_residual.result c.in_err-feed.field-0.0 (told.1 ∙ ap Err told.2)
    (counts-then {T = Unit {0}} (stream_of c.args.player.now.playing.stream).session (stream_of c.loop-piece.player.playing.stream).session (g.S.Sink.failures c.args.player.now.playing.sink)
    (g.S.Sink.failures c.loop-piece.player.playing.sink) (g.S.Sink.failures c.feed.new.self.playing.sink) (Err c.in_err-feed.field-0.0)
    c.loop-piece.invariant.1 c.loop-piece.invariant.2 c.in_err-feed.ensures.cause)

pub returns-clause-cause : goal.returns-clause-cause
returns-clause-cause g c =
    counts-then (stream_of c.args.player.now.playing.stream).session (stream_of c.loop-piece.player.playing.stream).session (g.S.Sink.failures c.args.player.now.playing.sink)
    (g.S.Sink.failures c.loop-piece.player.playing.sink) (g.S.Sink.failures c.end.new.self.playing.sink) c.end.result
    c.loop-piece.invariant.1 c.loop-piece.invariant.2 c.end.ensures.cause

pub returns-in_err-feed-clause-flushed : goal.returns-in_err-feed-clause-flushed
returns-in_err-feed-clause-flushed g c =
    let told = err_from_is_err_and c.from_residual.result c.from_residual.ensures.1 in
    hands-error g.S.Sink.handed_on g.S.Sink.bytes_taken c.args.player.now.playing.sink c.feed.new.self.playing.sink c.from_residual.result c.in_err-feed.field-0.0 (told.1 ∙ ap Err told.2)
    (until-then g.S.Sink.handed_on g.S.Sink.bytes_taken c.args.player.now.playing.sink c.loop-piece.player.playing.sink c.feed.new.self.playing.sink c.in_err-feed.field-0.0
    c.loop-piece.invariant.3 c.in_err-feed.ensures.flushed)

pub returns-clause-flushed : goal.returns-clause-flushed
returns-clause-flushed g c =
    hands-then g.S.Sink.handed_on g.S.Sink.bytes_taken c.args.player.now.playing.sink c.loop-piece.player.playing.sink c.end.new.self.playing.sink c.end.result c.loop-piece.invariant.3 c.end.ensures.flushed
