-- A piece is cut, and then all that waits is taken.
use Rattle.std.proofs.Common.{None}
use Rattle.stream_session.specs.Stream.{stream_of, with_piece}
use Rattle.peer_player.proofs.Results.{on-err}
use Rattle.peer_player.proofs.Steps.{short-piece}
use Rattle.peer_player.proofs.playing.Playing.feed.Goals as goal

pub returns-in_err-feed-clause-err : goal.returns-in_err-feed-clause-err
returns-in_err-feed-clause-err g c = λ fed goes_on had.
    let at = g.S.Sink.bytes_taken c.args.self.now.sink in
    on-err c.from_residual.result
    (short-piece fed c.args.piece.now at goes_on
    (c.what_a_stream_wrote.ensures.short fed (λ n. None) (stream_of c.feed.new.self) at (c.in_err-feed.ensures.refused fed (λ n. None) at had)))

pub returns-clause-ok : goal.returns-clause-ok
returns-clause-ok g c = λ fed goes_on had.
    c.take_contents.ensures.ok (with_piece fed c.args.piece.now)
    (c.in_ok-feed.ensures.fed fed (λ n. None) (g.S.Sink.bytes_taken c.args.self.now.sink) had goes_on)

pub returns-clause-err : goal.returns-clause-err
returns-clause-err g c = λ fed goes_on had.
    c.take_contents.ensures.err (with_piece fed c.args.piece.now)
    (c.in_ok-feed.ensures.fed fed (λ n. None) (g.S.Sink.bytes_taken c.args.self.now.sink) had goes_on)
