use Rattle.std.proofs.Common.{◌≡◌, ◌≤◌, ◌+◌, ◌++◌, length}
use Rattle.std.specs.Vec.Iter.{into_iter_items}
use Rattle.connection_history.specs.Stream.{calls_in}
use Rattle.connection_steps.specs.Steps.{own_after_all}
use Rattle.connection_desk.specs.Inner.{untold_of, room_of, IsOpenEnded, told_along, calls_along, counted_along}
use Rattle.connection_desk.proofs.settling.settle_entries.Given as goal

abbrev pub invariant-loop-entry : goal.invariant-loop-entry
invariant-loop-entry l =
    let rest = into_iter_items l.entry-iterator in
    record {
      open_ended : IsOpenEnded l.events;
      came : l.theirs.came ≡ l.fn.theirs.came;
      numbers : l.number + length (calls_in rest) ≡ l.came + length (calls_in l.fn.entries.items);
      own : own_after_all rest l.own ≡ own_after_all l.fn.entries.items l.fn.own;
      calls : calls_along l.number rest l.theirs.calls ≡ calls_along l.came l.fn.entries.items l.fn.theirs.calls;
      untold : untold_of l.events ++ told_along l.number l.own l.theirs.calls rest ≡ untold_of l.fn.events ++ told_along l.came l.fn.own l.fn.theirs.calls l.fn.entries.items;
      tally : counted_along l.number l.own l.theirs.calls rest l.tally ≡ counted_along l.came l.fn.own l.fn.theirs.calls l.fn.entries.items l.fn.tally;
      room : length (told_along l.number l.own l.theirs.calls rest) ≤ room_of l.events;
    }
