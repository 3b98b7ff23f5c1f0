use Rattle.std.proofs.Common.{sym, subst}
use Rattle.content_streams.specs.declared.ending.HowEnded.{HowEnded}
use Rattle.conversation_judge.specs.Said.{ended_as}
use Rattle.conversation_rules.specs.Judging as judging
use Rattle.judge_calls.specs.Seeing.{Sees}
use Rattle.judge_calls.proofs.SeenOrNot.{sees, ended}
use Rattle.judge_calls.proofs.hosted.HostedJudge.ended.Goals as goal

pub returns-in_ok-closed-in-Closed : goal.returns-in_ok-closed-in-Closed
returns-in_ok-closed-in-Closed c =
    let a = c.args.self.now.judge in let b = c.closed.new.self in let it = c.in_ok-closed-in-Closed.ensures in let both = c.in-Some-Some in
    ended a b c.args.side c.args.how both.side both.how both.ensures both.ensures'
    (subst (λ (how : HowEnded). Sees a b (ended_as both.side how)) (sym c.in-Closed.is) (sees a b (judging.Closed both.side) it.ok it.stands it.stopped))

pub returns-in_ok-failed-in-ReadFailed : goal.returns-in_ok-failed-in-ReadFailed
returns-in_ok-failed-in-ReadFailed c =
    let a = c.args.self.now.judge in let b = c.failed.new.self in let it = c.in_ok-failed-in-ReadFailed.ensures in let both = c.in-Some-Some in
    ended a b c.args.side c.args.how both.side both.how both.ensures both.ensures'
    (subst (λ (how : HowEnded). Sees a b (ended_as both.side how)) (sym c.in-ReadFailed.is) (sees a b (judging.Failed both.side) it.ok it.stands it.stopped))
