use Rattle.std.proofs.Common.{◌≡◌, All, length}
use Rattle.job_slots.specs.Seats.{IsClerkOf, IsWorkerOf, looks_of}
use Rattle.rpc_peer.proofs.server.split_seats.Given as goal

-- a seat for each worker so far
abbrev pub invariant-loop : goal.invariant-loop
invariant-loop g l = record {
  table : IsClerkOf l.slots l.clerk;
  looks : looks_of l.clerk ≡ looks_of l.fn.clerk;
  seats : All (IsWorkerOf l.slots) l.seats.items;
  many : length l.seats.items ≡ l.counter;
}
