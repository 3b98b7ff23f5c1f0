use Rattle.std.proofs.Common.{◌-◌}
use Rattle.handler_future.specs.Evaluation.{replies_from}
use Rattle.handler_future.specs.Front.{heard_replies}
use Rattle.handler_future.proofs.KeptItems.{KeptBefore}
use Rattle.handler_future.proofs.reply_values.kept_values.Given as goal

abbrev pub invariant-loop-called : goal.invariant-loop-called
invariant-loop-called l =
    KeptBefore l.on_error (replies_from (heard_replies l.heard) l.turn l.calls) l.values (replies_from (heard_replies l.heard) l.called (l.called-end - l.called))
