use Rattle.std.proofs.Common.{◌≤◌}
use Rattle.answer_desk.proofs.answers.count_answered.Given as goal

-- so that the count doesn't wrap
abbrev pub invariant-loop-due : goal.invariant-loop-due
invariant-loop-due l = l.count ≤ l.due-index
