use Rattle.std.proofs.Common.{◌≡◌, ◌++◌, drop, map}
use Rattle.conversation_rules.specs.Judging.{unanswered_finding, maybe_answered, counted_as_refused}
use Rattle.conversation_judge.proofs.seeing.put_each_unanswered.Given as goal

abbrev pub invariant-loop-request : goal.invariant-loop-request
invariant-loop-request l =
    l.findings.items ++ map (unanswered_finding l.side l.how l.is_broken) (counted_as_refused l.refused l.number (map (maybe_answered l.asker.unsure_up_to) (drop l.request-index l.requests)))
    ≡ l.initial.findings.items ++ map (unanswered_finding l.side l.how l.is_broken) (counted_as_refused l.asker.refusals.refused 0 (map (maybe_answered l.asker.unsure_up_to) l.requests))
