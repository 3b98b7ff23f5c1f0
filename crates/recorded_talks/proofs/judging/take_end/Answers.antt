use Rattle.recorded_talks.specs.Replays.{untold}
use Rattle.recorded_talks.proofs.Going.{end_went}
use Rattle.recorded_talks.proofs.judging.take_end.Goals as goal

pub returns : goal.returns
returns g c =
    let told = c.in_ok-tell_findings.ensures in
    let mid = c.end-taken.new.self in (
      untold mid.judge,
      end_went c.args.replay.now mid c.tell_findings.new.replay c.args.counts.now c.tell_findings.new.counts (g.W.Write.contents c.args.output.now) (g.W.Write.contents c.tell_findings.new.output)
          c.in_ok-taken.ensures told.replay told.counts told.written,
    )
