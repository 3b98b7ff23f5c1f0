use Rattle.std.proofs.Common.{◌≡◌, length}
use Rattle.open_calls.specs.Own.{without_caller}
use Rattle.open_calls.proofs.own_calls.OwnCalls.end_caller.Given as goal

abbrev pub invariant-loop-key : goal.invariant-loop-key
invariant-loop-key l = record {
  made : l.self.made ≡ l.initial.self.made;
  rest : without_caller l.caller l.self.waiting ≡ without_caller l.caller l.initial.self.waiting;
}

abbrev pub decreases-loop-key : goal.decreases-loop-key
decreases-loop-key l = length l.self.waiting
