use Rattle.std.proofs.Common.{◌≡◌, ◌+◌, ◌^◌, ◌≤◌, ◌==◌, ◌++◌, length}
use Rattle.conversation_reading.specs.Numbers.{number_of}
use Rattle.conversation_ids.proofs.digits.same_sum.Given as goal

-- what is left is equal just where the whole is
abbrev pub invariant-loop-x : goal.invariant-loop-x
invariant-loop-x l = record {
  same : (number_of (l.x ++ l.x_behind) + l.x_more == number_of (l.y ++ l.y_behind) + l.y_more) ≡ (number_of (l.a ++ l.a_behind) + l.a_more == number_of (l.b ++ l.b_behind) + l.b_more);
  x_more : l.x_more ≤ 2 ^ 100;
  y_more : l.y_more ≤ 2 ^ 100;
}

abbrev pub decreases-loop-x : goal.decreases-loop-x
decreases-loop-x l = length l.x + length l.x_behind + (length l.y + length l.y_behind)
