use Rattle.std.proofs.Common.{◌≡◌, ◌≤◌}
use Rattle.number_windows.specs.Numbered.{up_to}
use Rattle.open_calls.proofs.their_calls.TheirCalls.take_back.Given as goal

abbrev pub invariant-loop-self : goal.invariant-loop-self
invariant-loop-self l = record {
  least : l.came ≤ l.self.came;
  rest : up_to l.came l.self.calls ≡ up_to l.came l.initial.self.calls;
}

abbrev pub decreases-loop-self : goal.decreases-loop-self
decreases-loop-self l = l.self.came
