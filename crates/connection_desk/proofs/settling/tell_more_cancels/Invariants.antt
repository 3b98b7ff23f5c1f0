use Rattle.std.proofs.Common.{◌≡◌, ◌+◌, ◌++◌, length, map}
use Rattle.connection_history.specs.declared.event.Event.TheVariants as event
use Rattle.connection_desk.specs.Inner.{untold_of, room_of, IsOpenEnded, reached_to, cancelled_to}
use Rattle.connection_desk.proofs.settling.tell_more_cancels.Given as goal

abbrev pub invariant-loop-number : goal.invariant-loop-number
invariant-loop-number l = record {
  came : l.theirs.came ≡ l.fn.theirs.came;
  calls : cancelled_to l.most l.id l.theirs.calls ≡ cancelled_to l.most l.id l.fn.theirs.calls;
  open_ended : IsOpenEnded l.events;
  untold : untold_of l.events ++ map event.Cancelled (reached_to l.most l.id l.theirs.calls)
      ≡ untold_of l.fn.events ++ map event.Cancelled (reached_to l.most l.id l.fn.theirs.calls);
  room : room_of l.events + length (reached_to l.most l.id l.fn.theirs.calls)
      ≡ room_of l.fn.events + length (reached_to l.most l.id l.theirs.calls);
}

abbrev pub decreases-loop-number : goal.decreases-loop-number
decreases-loop-number l = length (reached_to l.most l.id l.theirs.calls)
