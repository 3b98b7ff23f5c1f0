use Rattle.std.proofs.Common.{[], ◌++◌, take}
use Rattle.std.proofs.KnownBytes.{Consumes-trans}
use Rattle.recorded_talks.proofs.Going.{stays, went_on, consumes_none}
use Rattle.recorded_talks.proofs.judging.take_all.Goals as goal

pub loop-init : goal.loop-init
loop-init g c = ([], [], consumes_none (g.I.Read.remaining c.args.input.now), stays c.args.replay.now c.args.counts.now (g.W.Write.contents c.args.output.now))

pub loop-preserved : goal.loop-preserved
loop-preserved g c =
    let (text, found, read, went) = c.loop.invariant in
    let more = c.in_ok-take_piece-in-Ok.ensures in
    let piece = take c.in-Ok.count c.read.new.buf in (
      text ++ piece,
      found ++ more.0,
      Consumes-trans _ _ _ _ _ read c.in-Ok.ensures.bytes.0,
      went_on _ _ _ _ _ _ _ _ _ text piece found more.0 went more.1,
    )
