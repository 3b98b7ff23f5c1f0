use Rattle.conversation_rules.specs.Judging.{Wrote}
use Rattle.judge_calls.proofs.SeenOrNot.{sees, wrote}
use Rattle.judge_calls.proofs.hosted.HostedJudge.saw.Goals as goal

pub returns : goal.returns
returns c =
    let a = c.args.self.now.judge in let b = c.saw.new.self in let it = c.in_ok-saw.ensures in
    wrote a b c.args.side c.args.bytes.now c.in-Some.side c.in-Some.ensures (sees a b (Wrote c.in-Some.side c.args.bytes.now) it.ok it.stands it.stopped)
