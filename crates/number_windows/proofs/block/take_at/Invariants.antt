use Rattle.std.proofs.Common.{◌≡◌, ◌+◌, slice_index_or, remove}
use Rattle.std.specs.VecDeque.{deque_len, deque_capacity}
use Rattle.number_windows.proofs.block.take_at.Given as goal

-- those in front of i stand where they stood, and that of i is in hand
abbrev pub invariant-loop-i : goal.invariant-loop-i
invariant-loop-i g l = record {
  items : l.block.items ≡ remove l.fn.block.items l.i;
  taken : l.taken ≡ slice_index_or l.fn.block.items l.i l.taken;
  len : deque_len l.block + 1 ≡ deque_len l.fn.block;
  room : deque_capacity l.block ≡ deque_capacity l.fn.block;
}
