use Rattle.std.proofs.Common.{◌≡◌, ◌≤◌}
use Rattle.number_windows.specs.Numbered.{up_to}
use Rattle.open_calls.proofs.own_calls.OwnCalls.take_back.Given as goal

abbrev pub invariant-loop-self : goal.invariant-loop-self
invariant-loop-self l = record {
  least : l.made ≤ l.self.made;
  rest : up_to l.made l.self.waiting ≡ up_to l.made l.initial.self.waiting;
}

abbrev pub decreases-loop-self : goal.decreases-loop-self
decreases-loop-self l = l.self.made
