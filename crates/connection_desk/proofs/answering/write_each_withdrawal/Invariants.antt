use Rattle.std.proofs.Common.{◌≡◌, length}
use Rattle.std.specs.Option.{IfSome}
use Rattle.outbox.specs.Output.{OnlyPutSince}
use Rattle.connection_desk.specs.Desks.{with_texts}
use Rattle.connection_desk.specs.Inner.{rest_of}
use Rattle.connection_desk.proofs.Rests.{IsThere}
use Rattle.connection_desk.proofs.Withdrawn.{wanted, withdrawals}
use Rattle.connection_desk.proofs.answering.write_each_withdrawal.Given as goal

abbrev pub invariant-loop-next : goal.invariant-loop-next
invariant-loop-next l = record {
  said : with_texts (withdrawals l.by (rest_of l.next (wanted l.number l.own.waiting))) l.outbox
      ≡ with_texts (withdrawals l.by (wanted l.number l.own.waiting)) l.initial.outbox;
  since : OnlyPutSince l.initial.outbox l.outbox;
  there : IfSome l.next (IsThere (wanted l.number l.own.waiting));
}

abbrev pub decreases-loop-next : goal.decreases-loop-next
decreases-loop-next l = length (rest_of l.next (wanted l.number l.own.waiting))
