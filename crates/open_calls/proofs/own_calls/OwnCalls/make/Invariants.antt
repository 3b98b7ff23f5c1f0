use Rattle.std.proofs.Common.{◌≡◌, ◌+◌, ◌++◌}
use Rattle.open_calls.specs.Own.{new_calls}
use Rattle.open_calls.proofs.Own.{state_of}
use Rattle.open_calls.proofs.own_calls.OwnCalls.make.Given as goal

abbrev pub invariant-loop-index : goal.invariant-loop-index
invariant-loop-index l = l.self ≡ state_of (l.initial.self.made + l._index) (l.initial.self.waiting ++ new_calls l.initial.self.made l.caller l._index)
