use Rattle.std.proofs.Common.{◌≡◌, length}
use Rattle.answer_desk.specs.Places.{new_numbers}
use Rattle.peer_bench.proofs.work.desk_run.requests.Given as goal

abbrev pub invariant-loop-index : goal.invariant-loop-index
invariant-loop-index l = length (new_numbers l.places.items) ≡ l.index
