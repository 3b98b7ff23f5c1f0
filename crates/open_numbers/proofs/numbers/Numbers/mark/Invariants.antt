use Rattle.std.proofs.Common.{◌≡◌}
use Rattle.open_numbers.specs.Numbers.{with_marks_below}
use Rattle.open_numbers.specs.Requests.{count_in_reach}
use Rattle.open_numbers.proofs.numbers.Numbers.mark.Given as goal

-- what is left to mark leads to the same entries as all of it
abbrev pub invariant-loop : goal.invariant-loop
invariant-loop l = with_marks_below l.id l.before l.self ≡ with_marks_below l.id l.before l.initial.self

abbrev pub decreases-loop : goal.decreases-loop
decreases-loop l = count_in_reach l.self
