use Rattle.std.proofs.Common.{◌≡◌, ◌+◌, length}
use Rattle.std.specs.Vec.Iter.{into_iter_items}
use Rattle.rpc_peer.proofs.threads.hire.Given as goal

-- a worker for each seat so far, and the others are to come
abbrev pub invariant-loop-seat : goal.invariant-loop-seat
invariant-loop-seat g l = length l.workers.items + length (into_iter_items l.seat-iterator) ≡ length l.fn.seats.items
