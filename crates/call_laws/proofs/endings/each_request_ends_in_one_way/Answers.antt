use Rattle.call_laws.proofs.Ended.{ends, over_ends, ended_idle, one_way}
use Rattle.call_laws.proofs.ToldOf.{untold, told_of}
use Rattle.call_laws.proofs.endings.each_request_ends_in_one_way.Goals as goal

pub returns-clause-ends : goal.returns-clause-ends
returns-clause-ends c = ends c.a_reply_is_told_once.ensures.made

pub returns-clause-over : goal.returns-clause-over
returns-clause-over c = over_ends c.a_reply_is_told_once.ensures.made

pub returns-clause-not_both : goal.returns-clause-not_both
returns-clause-not_both c = ended_idle

pub returns-clause-one : goal.returns-clause-one
returns-clause-one c = one_way

pub returns-clause-untold : goal.returns-clause-untold
returns-clause-untold c =
    let law = c.a_reply_is_told_once.ensures in
    untold (record { first = law.first; comes = law.waiting; idle = law.not_waiting; at_end = law.ended; before_end = law.unanswered })

pub returns-clause-told : goal.returns-clause-told
returns-clause-told c =
    let law = c.a_reply_is_told_once.ensures in
    told_of (record { first = law.first; comes = law.waiting; idle = law.not_waiting; at_end = law.ended; before_end = law.unanswered })
