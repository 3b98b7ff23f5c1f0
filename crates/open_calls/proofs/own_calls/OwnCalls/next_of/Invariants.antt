use Rattle.std.proofs.Common.{suc, ◌-◌}
use Rattle.std.specs.Option.{option_map_or}
use Rattle.open_calls.proofs.Own.{IsPassed}
use Rattle.open_calls.proofs.own_calls.OwnCalls.next_of.Given as goal

abbrev pub invariant-loop-next : goal.invariant-loop-next
invariant-loop-next l = record {
  passed : IsPassed l.self.waiting l.caller l.after l.next;
}

abbrev pub decreases-loop-next : goal.decreases-loop-next
decreases-loop-next l = option_map_or (λ key. suc l.self.made - key) l.next 0
