use Rattle.std.proofs.Common.{◌≡◌, ◌+◌}
use Rattle.std.specs.VecDeque.{deque_len}
use Rattle.number_set.specs.Dense.{all_places}
use Rattle.number_set.proofs.dense_window.trim.Given as goal

abbrev pub invariant-loop-places : goal.invariant-loop-places
invariant-loop-places g l = record {
  same : all_places g.P.Place.gone l.first l.places.items ≡ all_places g.P.Place.gone l.initial.first l.initial.places.items;
  end : l.first + deque_len l.places ≡ l.initial.first + deque_len l.initial.places;
}

abbrev pub decreases-loop-places : goal.decreases-loop-places
decreases-loop-places g l = deque_len l.places
