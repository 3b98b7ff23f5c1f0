use Rattle.std.proofs.Common.{◌≡◌, ◌+◌, ◌++◌, length, map}
use Rattle.std.specs.VecDeque.{deque_len}
use Rattle.answer_desk.specs.Inner.Arrivals.{calls_of, dues_of}
use Rattle.open_numbers.specs.Kept.{kept_in}
use Rattle.answer_desk.proofs.arrival.Arrival.make.Given as goal

abbrev pub invariant-loop-place : goal.invariant-loop-place
invariant-loop-place l = record {
  numbers : l.numbers ≡ l.initial.numbers;
  calls : map kept_in l.calls.items ++ calls_of l.rest.items ≡ calls_of l.initial.rest.items;
  dues : l.dues.items ++ dues_of (l.number + length l.calls.items) l.rest.items ≡ dues_of l.number l.initial.rest.items;
}

abbrev pub decreases-loop-place : goal.decreases-loop-place
decreases-loop-place l = deque_len l.rest
