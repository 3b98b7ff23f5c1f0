use Rattle.std.proofs.Common.{◌≡◌, ◌+◌, ◌*◌, ◌^◌, ◌≤◌, ◌++◌, length}
use Rattle.conversation_reading.specs.Numbers.{number_of}
use Rattle.conversation_ids.proofs.digits.without_zeros.Given as goal

abbrev pub invariant-loop-front : goal.invariant-loop-front
invariant-loop-front l = record {
  amount : number_of (l.digits ++ l.behind) ≡ (number_of (l.left ++ l.left_behind) + l.more) * 10 ^ l.zeros;
  more : l.more ≤ 23;
  zeros : l.zeros + (30 * (length l.left + length l.left_behind) + l.more) ≤ 30 * (length l.digits + length l.behind);
}

abbrev pub decreases-loop-front : goal.decreases-loop-front
decreases-loop-front l = 30 * (length l.left + length l.left_behind) + l.more
